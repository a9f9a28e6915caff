use Rattle.std.proofs.Common.{◌≡◌, ◌+◌, ◌++◌, drop}
use Rattle.log_picture.specs.Ways.{ways_from}
use Rattle.log_picture.proofs.way.ways_in.Given as goal

abbrev pub invariant-events : goal.invariant-events
invariant-events l =
    ways_from l.txn l.from l.first l.events ≡ l.ways.items ++ ways_from l.txn l.from (l.first + l.index) (drop l.index l.events)
