use Rattle.std.proofs.Common.{◌≡◌, drop}
use Rattle.std.specs.List.{list_any}
use Rattle.tc_world.specs.Joining.Written.{answers}
use Rattle.tc_world.proofs.written.is_answered.Given as goal

abbrev pub invariant-events : goal.invariant-events
invariant-events l = list_any (answers l.number) (drop l.place l.events) ≡ list_any (answers l.number) l.events
