use Rattle.worker_pool.proofs.outstanding_calls.abandon_all.Given as goal

abbrev pub invariant-loop-outstanding : goal.invariant-loop-outstanding
invariant-loop-outstanding g l = Unit {0}

abbrev pub decreases-loop-outstanding : goal.decreases-loop-outstanding
decreases-loop-outstanding g l = goal.left-loop-outstanding g l
