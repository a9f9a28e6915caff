-- Code that is copied.
use Rattle.std.specs.Prelude.{List, [], ◌∷◌}
use Rattle.bpf_encoding.specs.declared.insn.Insn.{Insn}
use Rattle.bpf_encoding.specs.declared.insn.Place.{Place}
use Rattle.bpf_encoding.specs.declared.insn.Place.TheVariants as place

-- the instructions that stand at these places
abbrev pub insns_in : List Place → List Insn
insns_in [] = []
insns_in (place.Insn i ∷ places) = i ∷ insns_in places
insns_in (place.Second ∷ places) = insns_in places
