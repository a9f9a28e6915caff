use Rattle.worker_pool.proofs.pool.work.Given as goal

abbrev pub invariant-loop-ready : goal.invariant-loop-ready
invariant-loop-ready g l = Unit {0}

abbrev pub decreases-loop-ready : goal.decreases-loop-ready
decreases-loop-ready g l = l.outstanding_calls
