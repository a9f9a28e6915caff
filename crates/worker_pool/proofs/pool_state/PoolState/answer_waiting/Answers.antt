use Rattle.std.proofs.Common.{◌≡◌, ◌∙◌, Some, None, slice_get, refl, ap, sym, subst}
use Rattle.worker_pool.specs.Joining.Seen.{Seen}
use Rattle.tc_core.specs.Admission.{call_of}
use Rattle.worker_pool.specs.Answers.{AnswerFits}
use Rattle.worker_pool.specs.declared.answer.Progress.TheVariants.{Waiting, Answered}
use Rattle.worker_pool.proofs.Steps.{told, answers_stay, now_answered}
use Rattle.worker_pool.proofs.pool_state.PoolState.answer_waiting.Goals as goal

pub invariant_of-self : goal.invariant_of-self
invariant_of-self g c =
    let ss = c.self.inside.progress.items in
    let at : slice_get ss c.args.k ≡ Some Waiting = ap (λ (v : Seen). slice_get v.progress c.args.k) c.self.view_is ∙ c.requires.waits in
    let fits = subst (λ (v : Seen). AnswerFits g.J.RunSpec.start v.state (call_of c.args.call.now) c.args.answer None) (sym c.self.view_is) c.requires.fits in (
      told g.J.RunSpec.start g.J.RunSpec.calls c.self.inside.state ss c.args.k Waiting (Answered c.args.answer None) c.args.call.now
          c.self.invariant.0 at c.requires.call fits refl refl c.requires.placeless,
      (λ bad. (cc)),
      c.self.invariant.2,
    )

pub returns-clause-answered : goal.returns-clause-answered
returns-clause-answered g c =
    let ss = c.self.inside.progress.items in
    let at : slice_get ss c.args.k ≡ Some Waiting = ap (λ (v : Seen). slice_get v.progress c.args.k) c.self.view_is ∙ c.requires.waits in (
      now_answered ss c.args.k Waiting c.args.answer None at,
      rw (← c.self.view_is) (answers_stay ss c.args.k Waiting (Answered c.args.answer None) at refl),
    )
