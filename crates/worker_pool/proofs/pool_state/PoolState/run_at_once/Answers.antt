use Rattle.std.proofs.Common.{◌≡◌, ◌∙◌, Some, slice_get, ap}
use Rattle.worker_pool.specs.Joining.Seen.{Seen}
use Rattle.worker_pool.specs.declared.answer.Progress.TheVariants.{Begun}
use Rattle.worker_pool.proofs.AtOnceLemmas.{keeps_then, keeps_run, run_sites, all_flew, legal_then, good_then}
use Rattle.worker_pool.proofs.Doubtful.{going}
use Rattle.worker_pool.proofs.Grown.{handed_run}
use Rattle.worker_pool.proofs.pool_state.PoolState.run_at_once.Goals as goal

pub run_at_once-asked-requires : goal.run_at_once-asked-requires
run_at_once-asked-requires g c =
    all_flew g.J.RunSpec.start g.J.RunSpec.calls c.self.inside.progress.items c.args.txn.serial c.self.inside.state c.self.invariant.0

pub invariant_of-self : goal.invariant_of-self
invariant_of-self g c =
    let ran = c.run_at_once-asked.ensures in (
      keeps_run g.J.RunSpec.start g.J.RunSpec.calls c.self.inside.progress.items c.args.txn.serial c.self.inside.state
          c.run_at_once-asked.new.self c.run_at_once-asked.result ran c.self.invariant.0,
      (λ bad. (cc)),
      handed_run g.J.RunSpec.start c.self.inside.handed c.self.inside.copied c.self.inside.state c.args.txn.serial
          c.run_at_once-asked.new.self c.run_at_once-asked.result ran c.self.invariant.2,
    )

pub returns-clause-goes : goal.returns-clause-goes
returns-clause-goes g c =
    let ss = c.self.inside.progress.items in
    let t = c.args.txn.serial in
    let state = c.self.inside.state in
    let ran = c.run_at_once-asked.ensures in
    let now = c.run_at_once-asked.new.self in
    let asked = c.run_at_once-asked.result in
    let at : slice_get ss c.args.k ≡ Some (Begun c.args.txn) = ap (λ (v : Seen). slice_get v.progress c.args.k) c.self.view_is
    ∙ c.requires.begun in
    let kept = keeps_then g.J.RunSpec.start g.J.RunSpec.calls ss t state now asked ran c.self.invariant.0 in
    let begun = kept.fits c.args.k (Begun c.args.txn) c.args.call.now at c.requires.call in
    rw ran.asks (going ran.then t (legal_then t state now asked ran c.known.ensures.legal)
    (good_then t state now asked ran c.known.ensures.good) begun.still)

pub returns-clause-sites : goal.returns-clause-sites
returns-clause-sites g c =
    run_sites c.args.txn.serial c.self.inside.state c.run_at_once-asked.new.self c.run_at_once-asked.result c.run_at_once-asked.ensures
    ∙ ap (λ (v : Seen). v.state.sites) c.self.view_is
