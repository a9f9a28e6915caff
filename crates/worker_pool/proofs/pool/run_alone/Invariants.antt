use Rattle.worker_pool.specs.Joining.Moves.{MovesOn, IsHeldBy}
use Rattle.worker_pool.proofs.pool.run_alone.Given as goal

abbrev pub invariant-loop : goal.invariant-loop
invariant-loop g l = MovesOn l.fn.pool_state.progress l.pool_state.progress l.k l.next × IsHeldBy l.next l.attempt.request
