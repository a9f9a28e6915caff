use Rattle.embedding.specs.Serving.{NoneIsOpen}
use Rattle.embedding.proofs.opened.first_open.Given as goal

abbrev pub invariant-loop-place : goal.invariant-loop-place
invariant-loop-place l = NoneIsOpen l.state l.from l.place
