use Rattle.std.proofs.Common.{◌≡◌, ℕ, Bool, true, false, if◌then◌else◌, refl, ◌∙◌}
use Rattle.std.specs.Prelude.{Option, None, ◌==◌}
use Rattle.access_slots.specs.declared.slot.Mode.{Mode}
use Rattle.lower_tests.proofs.lock_tests.release.Goals as goal

none_either : (b : Bool) (o : Option Mode) → o ≡ None → (if b then None else o) ≡ None
none_either true o none = refl
none_either false o none = none

pub returns : goal.returns
returns c = λ t nothing r. c.release.ensures.held t r ∙ none_either (t == c.args.txn) _ (nothing r)
