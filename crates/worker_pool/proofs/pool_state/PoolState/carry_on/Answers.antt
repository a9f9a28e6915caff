use Rattle.worker_pool.proofs.Known.{known_then}
use Rattle.worker_pool.proofs.pool_state.PoolState.carry_on.Goals as goal

pub returns-then-not-is_open-clause-known : goal.returns-then-not-is_open-clause-known
returns-then-not-is_open-clause-known g c =
    let later = c.advance-then-not-is_open in
    known_then c.args.self.now.state c.give_up.new.self.state later.new.self.state c.give_up.ensures.sites later.ensures.known

pub returns-then-is_spent-clause-known : goal.returns-then-is_spent-clause-known
returns-then-is_spent-clause-known g c = λ d incarnation n come. c.go_on_without.ensures.known d incarnation n (c.carry.ensures.known d incarnation n come)
