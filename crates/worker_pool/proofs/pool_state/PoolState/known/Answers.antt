use Rattle.std.proofs.Common.{subst}
use Rattle.worker_pool.specs.Joining.Seen.{Seen}
use Rattle.worker_pool.specs.Wires.{IsOfRun}
use Rattle.worker_pool.proofs.pool_state.PoolState.known.Goals as goal

pub returns : goal.returns
returns g c =
    let keeps = c.self.invariant.0 in
    subst (λ (v : Seen). IsOfRun g.J.RunSpec.start v.state) c.self.view_is
    (record { goes_on = record { stays = keeps.stays; begins = keeps.begins; legal = c.known.ensures.legal }; restarts = keeps.restarts })
