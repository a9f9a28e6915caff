use Rattle.worker_pool.proofs.Steps.{redo_heard}
use Rattle.worker_pool.proofs.Grown.{handed_redone}
use Rattle.std.proofs.Common.{subst}
use Rattle.worker_pool.specs.Joining.Seen.{Seen}
use Rattle.worker_pool.specs.Restarts.{IsKnownRedone}
use Rattle.worker_pool.proofs.Known.{known_redone, now_redone}
use Rattle.worker_pool.proofs.pool_state.PoolState.redone.Goals as goal

pub invariant_of-self : goal.invariant_of-self
invariant_of-self g c =
    let e = c.redone.ensures in (
      redo_heard g.J.RunSpec.start g.J.RunSpec.calls c.self.inside.state c.redone.new.self c.self.inside.progress.items
          c.args.dc c.args.reply.now.number c.redone.result e.ok e.err
          (known_redone c.self.inside.state c.redone.new.self c.args.dc c.args.reply.now c.redone.result
          c.known.ensures.legal e.accepted e.ok e.err) c.self.invariant.0,
      (λ bad. (cc)),
      handed_redone g.J.RunSpec.start c.self.inside.handed c.self.inside.copied c.self.inside.state c.redone.new.self
          c.args.dc c.args.reply.now.number c.redone.result e.ok e.err c.self.invariant.2,
    )

pub returns-clause-redone : goal.returns-clause-redone
returns-clause-redone g c =
    let e = c.redone.ensures in
    subst (λ (v : Seen). IsKnownRedone v.state c.redone.new.self c.args.dc c.args.reply.now) c.self.view_is
    (now_redone c.self.inside.state c.redone.new.self c.args.dc c.args.reply.now c.redone.result e.accepted e.ok)
