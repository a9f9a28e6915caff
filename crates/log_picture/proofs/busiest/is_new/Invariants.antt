use Rattle.std.proofs.Common.{◌≡◌, ◌<◌, ℕ, Some}
use Rattle.std.specs.Prelude.{slice_get}
use Rattle.log_picture.specs.declared.busiest.RecordRow.{RecordRow}
use Rattle.log_picture.proofs.busiest.is_new.Given as goal

abbrev pub invariant-rows : goal.invariant-rows
invariant-rows l = (k : ℕ) (row : RecordRow) → k < l.row-index → slice_get l.rows k ≡ Some row → ¬ (row.«record» ≡ l.«record»)
