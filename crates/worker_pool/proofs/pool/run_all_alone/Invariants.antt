use Rattle.std.proofs.Common.{◌<◌, ℕ}
use Rattle.worker_pool.specs.Joining.Seen.{IsAnswered}
use Rattle.worker_pool.proofs.pool.run_all_alone.Given as goal

abbrev pub invariant-loop-k : goal.invariant-loop-k
invariant-loop-k g l = Unit {0}

abbrev pub invariant-loop-k-2 : goal.invariant-loop-k-2
invariant-loop-k-2 g l = (i : ℕ) → i < l.k → IsAnswered l.pool_state.progress i
