-- Behind how many admissions a log begins.
use Rattle.std.specs.Prelude.{ℕ, List, [], ◌∷◌}
use Rattle.tc_log.specs.declared.event.Event.{Event}
use Rattle.tc_log.specs.declared.event.Event.TheVariants.{Checkpoint}

-- for how many admissions the event stands
abbrev pub stands_for : Event → ℕ
stands_for (Checkpoint before numbers) = before
stands_for other = 0

-- how many transactions were admitted before the oldest event
abbrev pub admitted_before : List Event → ℕ
admitted_before [] = 0
admitted_before (Checkpoint before numbers ∷ h) = before
admitted_before (_ ∷ h) = admitted_before h
