use Rattle.std.proofs.Common.{◌≡◌, ◌++◌, drop, reverse}
use Rattle.journals.proofs.copying.copy_events.Given as goal

abbrev pub invariant-events : goal.invariant-events
invariant-events l = reverse l.out.events ++ drop l.place (reverse l.log.events) ≡ reverse l.initial.out.events ++ drop l.from (reverse l.log.events)
