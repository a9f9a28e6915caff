use Rattle.std.proofs.Common.{◌≡◌, ◌+◌, drop}
use Rattle.log_picture.specs.Lives.{ending_of}
use Rattle.log_picture.proofs.life.ending_of.Given as goal

abbrev pub invariant-events : goal.invariant-events
invariant-events l = ending_of l.txn l.first l.events ≡ ending_of l.txn (l.first + l.index) (drop l.index l.events)
