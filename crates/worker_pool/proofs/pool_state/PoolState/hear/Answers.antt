use Rattle.std.proofs.Common.{sym, subst}
use Rattle.tc_core.specs.Core.{Asking}
use Rattle.worker_pool.specs.Wires.{IsCarriedFor}
use Rattle.worker_pool.proofs.pool_state.PoolState.hear.Goals as goal

pub put_back-requires-clause-fits : goal.put_back-requires-clause-fits
put_back-requires-clause-fits g c = subst (λ (r : Asking). IsCarriedFor g.J.RunSpec.start r c.take.new.self.wire)
    (sym c.in-Err.ensures.back) c.in-Some.ensures.fits
