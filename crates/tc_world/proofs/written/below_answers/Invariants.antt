use Rattle.std.proofs.Common.{◌≡◌, drop}
use Rattle.std.specs.Prelude.{fold}
use Rattle.tc_world.specs.Joining.Written.{below_event}
use Rattle.tc_world.proofs.written.below_answers.Given as goal

abbrev pub invariant-events : goal.invariant-events
invariant-events l = fold below_event l.low (drop l.place l.events) ≡ fold below_event l.low_water l.events
