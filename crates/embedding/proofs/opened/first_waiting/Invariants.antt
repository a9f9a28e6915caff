use Rattle.embedding.specs.Serving.{NoneWaits}
use Rattle.embedding.proofs.opened.first_waiting.Given as goal

abbrev pub invariant-loop-at : goal.invariant-loop-at
invariant-loop-at l = NoneWaits l.state l.dc l.from l.at
