use Rattle.worker_pool.proofs.Steps.{heard}
use Rattle.worker_pool.proofs.Grown.{handed_heard}
use Rattle.worker_pool.proofs.pool_state.PoolState.answer.Goals as goal

pub invariant_of-self : goal.invariant_of-self
invariant_of-self g c =
    let e = c.answer.ensures in (
      heard g.J.RunSpec.start g.J.RunSpec.calls c.self.inside.state c.answer.new.self c.self.inside.progress.items
          c.args.request c.args.reply.said c.answer.result e.ok e.err c.self.invariant.0,
      (λ bad. (cc)),
      handed_heard g.J.RunSpec.start c.self.inside.handed c.self.inside.copied c.self.inside.state c.answer.new.self
          c.args.request c.args.reply.said c.answer.result e.ok e.err c.self.invariant.2,
    )
