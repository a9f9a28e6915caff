-- What waits at slots while code is read.
use Rattle.std.specs.Prelude.{◌≡◌, ℕ, ◌<◌, ◌≤◌, List, length, Option, Some, None}
use Rattle.std.specs.List.{slice_index_or}
use Rattle.access_slots.specs.Declaration.{Declaration}
use Rattle.bpf_encoding.specs.declared.insn.Place.{Place}
use Rattle.register_kinds.specs.declared.kinds.Kinds.{Kinds}
use Rattle.register_kinds.specs.Arriving.{along, arriving}

-- slot by slot
abbrev pub Table : Type 0
Table = List (Option Kinds)

abbrev pub kept : Table → ℕ → Option Kinds
kept table at = slice_index_or table at None

-- what is known at a slot, where these kinds fall to slot n and the others wait
abbrev pub known : ℕ → Option Kinds → Table → ℕ → Option Kinds
known n falling waiting at = along (Some n) falling at (kept waiting at)

-- what falls to slot n and what waits from there on is what is known by the ways from the first n slots
pub record HasArrived (decl : Declaration) (code : List Place) (n : ℕ) (falling : Option Kinds) (waiting : Table) : Type 0 where
  pub long : length waiting ≡ length code
  pub each : (at : ℕ) → n ≤ at → at < length code → known n falling waiting at ≡ arriving decl code n at
