use Rattle.std.proofs.Common.{◌≡◌, ◌+◌, drop}
use Rattle.log_picture.specs.Ways.{answering_of}
use Rattle.log_picture.proofs.way.answering_of.Given as goal

abbrev pub invariant-events : goal.invariant-events
invariant-events l = answering_of l.number l.first l.events ≡ answering_of l.number (l.first + l.index) (drop l.index l.events)
