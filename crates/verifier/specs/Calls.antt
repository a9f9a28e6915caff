-- The instructions that call a helper.
use Rattle.std.specs.Prelude.{Bool, true, false}
use Rattle.bpf_encoding.specs.declared.insn.Insn.{Insn}
use Rattle.bpf_encoding.specs.declared.insn.Insn.TheVariants.{Call}
use Rattle.bpf_encoding.specs.declared.insn.Place.{Place}
use Rattle.bpf_encoding.specs.declared.insn.Place.TheVariants as place

abbrev pub is_call : Insn → Bool
is_call (Call helper) = true
is_call i = false

abbrev pub is_call_place : Place → Bool
is_call_place (place.Insn i) = is_call i
is_call_place place.Second = false
