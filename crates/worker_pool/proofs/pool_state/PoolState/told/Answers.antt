use Rattle.worker_pool.proofs.Steps.{restart_told}
use Rattle.worker_pool.proofs.Grown.{handed_told}
use Rattle.std.proofs.Common.{subst}
use Rattle.worker_pool.specs.Joining.Seen.{Seen}
use Rattle.worker_pool.specs.Restarts.{AreKnown}
use Rattle.worker_pool.proofs.Known.{known_told, now_told}
use Rattle.worker_pool.proofs.pool_state.PoolState.told.Goals as goal

pub invariant_of-self : goal.invariant_of-self
invariant_of-self g c =
    let e = c.told-old.ensures in (
      restart_told g.J.RunSpec.start g.J.RunSpec.calls c.self.inside.state c.told-old.new.self
          c.self.inside.progress.items c.args.dc c.args.news c.told-old.result e.ok e.err
          (known_told c.self.inside.state c.told-old.new.self c.args.dc c.args.news c.told-old.result e.taken e.ok
          e.err) c.self.invariant.0,
      (λ bad. (cc)),
      handed_told g.J.RunSpec.start c.self.inside.handed c.self.inside.copied c.self.inside.state c.told-old.new.self
          c.args.dc c.args.news c.told-old.result e.ok e.err c.self.invariant.2,
    )

pub returns-clause-told : goal.returns-clause-told
returns-clause-told g c =
    let e = c.told-old.ensures in
    subst (λ (v : Seen). AreKnown v.state c.told-old.new.self c.args.dc c.args.news) c.self.view_is
    (now_told c.self.inside.state c.told-old.new.self c.args.dc c.args.news c.told-old.result e.ok e.fault)
