use Rattle.worker_pool.proofs.Steps.{gave_up}
use Rattle.worker_pool.proofs.Grown.{handed_same}
use Rattle.worker_pool.proofs.pool_state.PoolState.give_up.Goals as goal

pub invariant_of-self : goal.invariant_of-self
invariant_of-self g c =
    let e = c.give_up-number.ensures in (
      gave_up g.J.RunSpec.start g.J.RunSpec.calls c.self.inside.state c.give_up-number.new.self
          c.self.inside.progress.items c.args.request e.open_here e.elsewhere e.rest c.self.invariant.0,
      (λ bad. (cc)),
      handed_same g.J.RunSpec.start c.self.inside.handed c.self.inside.copied c.self.inside.state c.give_up-number.new.self e.events c.self.invariant.2,
    )
