-- Code that was accepted, with its declaration.
use Rattle.std.specs.Prelude.{List}
use Rattle.access_slots.specs.Declaration.{Declaration}
use Rattle.bpf_encoding.specs.declared.insn.Place.{Place}

pub record Checked : Type 0 where
  pub code : List Place
  pub decl : Declaration
