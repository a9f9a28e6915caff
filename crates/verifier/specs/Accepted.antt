-- What the verifier keeps of code that it accepted.
use Rattle.std.specs.Prelude.{◌≡◌, ◌≤◌, List, length, None}
use Rattle.access_slots.specs.Declaration.{Declaration}
use Rattle.bpf_encoding.specs.Spells.{IsCode}
use Rattle.bpf_encoding.specs.declared.insn.Place.{Place}
use Rattle.verifier.specs.Verdict.{verdict}

-- nothing is wrong with it, and memory has room for its arguments and buffers
pub record IsAccepted (decl : Declaration) (code : List Place) : Type 0 where
  pub whole : IsCode code
  pub nothing : verdict decl code ≡ None
  pub few_args : decl.args ≤ 8
  pub few_slots : length decl.slots ≤ 16
