use Rattle.std.proofs.Common.{◌≡◌, ◌∙◌, Some, length, slice_get, ap, sym}
use Rattle.worker_pool.specs.Joining.Seen.{Seen}
use Rattle.worker_pool.specs.declared.answer.Progress.TheVariants.{Answered}
use Rattle.worker_pool.proofs.Steps.{was_answered}
use Rattle.worker_pool.proofs.pool_state.PoolState.ready.Goals as goal

pub invariant_of-result : goal.invariant_of-result
invariant_of-result g c =
    let i = c.self.inside in
    let it = c.in-Answered in
    let at : slice_get i.progress.items c.args.k ≡ Some (Answered it.answer it._txn) = ap
    (λ (v : Seen). slice_get v.progress c.args.k) c.self.view_is ∙ it.ensures in
    let count : length i.state.events ≡ c.len-logged.result = sym (c.len-logged.ensures ∙ ap length c.log.ensures) in
    was_answered g.J.RunSpec.start g.J.RunSpec.calls i.state i.progress.items c.args.k it.answer it._txn c.args.call.now c.len-logged.result
    c.self.invariant.0 at c.requires.call count
