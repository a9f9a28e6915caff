use Rattle.std.proofs.Common.{◌≡◌, ◌<◌, ℕ, Some}
use Rattle.std.specs.Prelude.{slice_get}
use Rattle.data_component.specs.Store.{Store}
use Rattle.audit.proofs.beginning.first_apart.Given as goal

abbrev pub invariant-loop-number : goal.invariant-loop-number
invariant-loop-number l = (d : ℕ) (s : Store) → d < l.number → slice_get l.dcs d ≡ Some s → s.base_mark ≡ l.begun
