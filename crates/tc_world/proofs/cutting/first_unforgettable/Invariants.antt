use Rattle.std.proofs.Common.{◌≡◌, ℕ, ◌<◌, Some, true}
use Rattle.std.specs.Prelude.{slice_get}
use Rattle.data_component.specs.Store.{Store}
use Rattle.tc_world.specs.Cutting.{can_forget}
use Rattle.tc_world.proofs.cutting.first_unforgettable.Given as goal

abbrev pub invariant-loop-d : goal.invariant-loop-d
invariant-loop-d l = (i : ℕ) (s : Store) → i < l.d → slice_get l.dcs i ≡ Some s → can_forget l.low_water s ≡ true
