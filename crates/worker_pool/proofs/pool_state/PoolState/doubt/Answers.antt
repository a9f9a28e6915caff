use Rattle.std.proofs.Common.{◌≡◌, ◌∙◌, Some, slice_get, refl, ap, sym, subst}
use Rattle.worker_pool.specs.Joining.Seen.{Seen}
use Rattle.worker_pool.specs.Doubts.{IsDoubtful}
use Rattle.worker_pool.specs.declared.answer.Answer.TheVariants.{InDoubt}
use Rattle.worker_pool.specs.declared.answer.Progress.TheVariants.{Begun, Answered}
use Rattle.worker_pool.proofs.Steps.{told, in_doubt_fits, answers_stay, now_answered}
use Rattle.worker_pool.proofs.pool_state.PoolState.doubt.Goals as goal

pub invariant_of-self : goal.invariant_of-self
invariant_of-self g c =
    let ss = c.self.inside.progress.items in
    let state = c.self.inside.state in
    let at : slice_get ss c.args.k ≡ Some (Begun c.args.txn) = ap (λ (v : Seen). slice_get v.progress c.args.k) c.self.view_is ∙ c.requires.begun in
    let doubt : IsDoubtful state c.args.txn.serial c.args.number = subst
    (λ (v : Seen). IsDoubtful v.state c.args.txn.serial c.args.number) (sym c.self.view_is) c.requires.doubtful in
    let begun = c.self.invariant.0.fits c.args.k (Begun c.args.txn) c.args.call.now at c.requires.call in (
      told g.J.RunSpec.start g.J.RunSpec.calls state ss c.args.k (Begun c.args.txn) (Answered (InDoubt c.args.number) (Some c.args.txn)) c.args.call.now
          c.self.invariant.0 at c.requires.call (in_doubt_fits g.J.RunSpec.start state c.args.call.now c.args.txn c.args.number begun doubt) refl refl refl,
      (λ bad. (cc)),
      c.self.invariant.2,
    )

pub returns-clause-answered : goal.returns-clause-answered
returns-clause-answered g c =
    let ss = c.self.inside.progress.items in
    let at : slice_get ss c.args.k ≡ Some (Begun c.args.txn) = ap (λ (v : Seen). slice_get v.progress c.args.k) c.self.view_is ∙ c.requires.begun in (
      now_answered ss c.args.k (Begun c.args.txn) (InDoubt c.args.number) (Some c.args.txn) at,
      rw (← c.self.view_is) (answers_stay ss c.args.k (Begun c.args.txn) (Answered (InDoubt c.args.number) (Some c.args.txn)) at refl),
    )
