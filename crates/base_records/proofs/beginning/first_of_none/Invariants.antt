use Rattle.std.proofs.Common.{◌≡◌, ◌<◌, ℕ, List, Some}
use Rattle.std.specs.Prelude.{slice_get}
use Rattle.access_slots.specs.declared.slot.Record.{Record}
use Rattle.base_records.proofs.beginning.first_of_none.Given as goal

abbrev pub invariant-rows : goal.invariant-rows
invariant-rows l = (k : ℕ) (x : Record × List ℕ) → k < l.row-index → slice_get l.base k ≡ Some x → x.0.dc < l.dcs
