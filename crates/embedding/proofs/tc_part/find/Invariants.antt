use Rattle.embedding.specs.Serving.{NoneOf}
use Rattle.embedding.proofs.tc_part.find.Given as goal

abbrev pub invariant-loop-k : goal.invariant-loop-k
invariant-loop-k l = NoneOf l.requests l.txn l.k
