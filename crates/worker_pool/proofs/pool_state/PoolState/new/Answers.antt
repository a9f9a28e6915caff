use Rattle.std.proofs.Common.{◌≡◌, ◌∙◌, length, refl, ap}
use Rattle.tc_core.specs.Core.{Core}
use Rattle.worker_pool.proofs.Steps.{opened}
use Rattle.worker_pool.proofs.Handing.{handed_first}
use Rattle.worker_pool.proofs.pool_state.PoolState.new.Goals as goal

pub invariant_of-result : goal.invariant_of-result
invariant_of-result g c =
    let count : c.len-copied.result ≡ length g.J.RunSpec.start.events = c.len-copied.ensures
    ∙ (ap length c.log.ensures ∙ ap (λ (s : Core). length s.events) c.requires.start) in
    rw (c.requires.start, c.requires.waiting, c.requires.handed) (
      opened g.J.RunSpec.start g.J.RunSpec.calls,
      (λ h. refl),
      handed_first g.J.RunSpec.start.events g.J.RunSpec.start.events c.len-copied.result refl count,
    )
