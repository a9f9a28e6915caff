use Rattle.std.proofs.Common.{◌≡◌, ◌∙◌, Some, slice_get, refl, ap, subst}
use Rattle.worker_pool.specs.Joining.Seen.{Seen}
use Rattle.tc_core.specs.Admission.{call_of}
use Rattle.worker_pool.specs.Answers.{AdmitRefusalFits}
use Rattle.worker_pool.specs.declared.answer.Progress.TheVariants.{Waiting, Begun}
use Rattle.worker_pool.proofs.Steps.{admitted_one, answers_stay}
use Rattle.worker_pool.proofs.Refusing.{refused}
use Rattle.tc_log.specs.declared.event.Event.TheVariants.{Admit}
use Rattle.worker_pool.proofs.Grown.{handed_more}
use Rattle.worker_pool.proofs.pool_state.PoolState.admit.Goals as goal

pub invariant_of-self : goal.invariant_of-self
invariant_of-self g c =
    let ss = c.self.inside.progress.items in
    let at : slice_get ss c.args.k ≡ Some Waiting = ap (λ (v : Seen). slice_get v.progress c.args.k) c.self.view_is ∙ c.requires.waits in (
      rw c.in-Ok.ensures.state (admitted_one g.J.RunSpec.start g.J.RunSpec.calls c.self.inside.state ss c.args.k c.in-Ok.txn c.args.call.now
          c.self.invariant.0 at c.requires.call c.in-Ok.ensures.admitted.takes c.in-Ok.ensures.ok),
      (λ bad. (cc)),
      rw c.in-Ok.ensures.state (handed_more g.J.RunSpec.start c.self.inside.handed c.self.inside.copied
          c.self.inside.state (Admit c.in-Ok.txn.serial c.args.call.now.proc c.args.call.now.args.items)
          c.self.invariant.2),
    )

pub returns-in-Ok-clause-ok : goal.returns-in-Ok-clause-ok
returns-in-Ok-clause-ok g c =
    let ss = c.self.inside.progress.items in
    let at : slice_get ss c.args.k ≡ Some Waiting = ap (λ (v : Seen). slice_get v.progress c.args.k) c.self.view_is ∙ c.requires.waits in
    rw (← c.self.view_is) (answers_stay ss c.args.k Waiting (Begun c.in-Ok.txn) at refl)

pub returns-in-Err-clause-refused : goal.returns-in-Err-clause-refused
returns-in-Err-clause-refused g c =
    subst (λ (v : Seen). AdmitRefusalFits g.J.RunSpec.start v.state (call_of c.args.call.now) c.in-Err.refusal) c.self.view_is
    (refused g.J.RunSpec.start c.self.inside.state (call_of c.args.call.now) c.in-Err.refusal c.self.invariant.0.stays
    c.known.ensures.good c.in-Err.ensures.refused)
