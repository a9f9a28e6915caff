use Rattle.std.proofs.Common.{◌≡◌, ◌∙◌, Some, slice_get, refl, ap, sym}
use Rattle.tc_core.specs.Replies.{end_of}
use Rattle.worker_pool.specs.Joining.Seen.{Seen}
use Rattle.worker_pool.specs.declared.answer.Progress.TheVariants.{Begun, Answered}
use Rattle.worker_pool.proofs.Steps.{ended_by, answers_stay, now_answered}
use Rattle.tc_core.specs.Core.{Core}
use Rattle.worker_pool.proofs.Grown.{handed_ended}
use Rattle.worker_pool.proofs.Known.{ended_sites}
use Rattle.worker_pool.proofs.pool_state.PoolState.end.Goals as goal

pub invariant_of-self : goal.invariant_of-self
invariant_of-self g c =
    let ss = c.self.inside.progress.items in
    let state = c.self.inside.state in
    let at : slice_get ss c.args.k ≡ Some (Begun c.args.txn) = ap (λ (v : Seen). slice_get v.progress c.args.k) c.self.view_is ∙ c.requires.begun in (
      rw c.answer_for-answer.ensures (ended_by g.J.RunSpec.start g.J.RunSpec.calls state c.end.new.self ss c.args.k
          c.args.txn c.args.call.now c.in-Ok.receipt (end_of state c.args.txn.serial)
          c.self.invariant.0 at c.requires.call (sym c.in-Ok.is ∙ c.end.ensures.reply) c.end.ensures.state),
      (λ bad. (cc)),
      rw c.end.ensures.state (handed_ended g.J.RunSpec.start c.self.inside.handed c.self.inside.copied
          c.self.inside.state c.args.txn.serial (end_of state c.args.txn.serial) c.self.invariant.2),
    )

pub returns-clause-answered : goal.returns-clause-answered
returns-clause-answered g c =
    let ss = c.self.inside.progress.items in
    let at : slice_get ss c.args.k ≡ Some (Begun c.args.txn) = ap (λ (v : Seen). slice_get v.progress c.args.k) c.self.view_is ∙ c.requires.begun in (
      now_answered ss c.args.k (Begun c.args.txn) c.answer_for-answer.result (Some c.args.txn) at,
      rw (← c.self.view_is) (answers_stay ss c.args.k (Begun c.args.txn) (Answered c.answer_for-answer.result (Some c.args.txn)) at refl),
    )

pub returns-clause-sites : goal.returns-clause-sites
returns-clause-sites g c =
    let state = c.self.inside.state in
    ap (λ (s : Core). s.sites) c.end.ensures.state
    ∙ (ended_sites state c.args.txn.serial (end_of state c.args.txn.serial) ∙ ap (λ (v : Seen). v.state.sites) c.self.view_is)
