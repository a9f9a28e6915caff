use Rattle.access_slots.specs.Locks.{target}
use Rattle.worker_pool.proofs.Known.{still_told}
use Rattle.worker_pool.proofs.pool_state.PoolState.go_on_unanswered.Goals as goal

pub returns-then-is_last-clause-told : goal.returns-then-is_last-clause-told
returns-then-is_last-clause-told g c =
    still_told c.args.self.now.state c.hear_news.new.self.state c.go_on_without.new.self.state (target c.args.attempt.now.wire.op).dc c.args.news
    c.hear_news.ensures.told c.go_on_without.ensures.known

pub returns-clause-told : goal.returns-clause-told
returns-clause-told g c =
    still_told c.args.self.now.state c.hear_news.new.self.state c.carry_on.new.self.state (target c.args.attempt.now.wire.op).dc c.args.news
    c.hear_news.ensures.told c.carry_on.ensures.known
