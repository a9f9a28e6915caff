use Rattle.std.proofs.Common.{◌≡◌}
use Rattle.worker_pool.proofs.group_commit.hand_over_alone.Given as goal

abbrev pub invariant-loop : goal.invariant-loop
invariant-loop g l = l.pool_state ≡ l.fn.pool_state
