use Rattle.std.proofs.Common.{◌∙◌, subst}
use Rattle.std.specs.Prelude.{◌↔◌, IsTrue}
use Rattle.tc_core.specs.GivingUp.{IsOpenHere}
use Rattle.worker_pool.specs.Joining.Seen.{Seen}
use Rattle.worker_pool.proofs.Carrying.{open_where}
use Rattle.worker_pool.proofs.pool_state.PoolState.is_open.Goals as goal

pub returns-in-Some-waits_for : goal.returns-in-Some-waits_for
returns-in-Some-waits_for g c =
    let r = c.args.request.now in
    subst (λ (v : Seen). IsTrue c.is_sent_for.result ↔ IsOpenHere v.state r) c.self.view_is
    (open_where c.self.inside.state r c.in-Some.txn.serial c.in-Some-waits_for.sent c.is_sent_for.result (c.in-Some.ensures.found.0 ∙ c.txn.ensures)
    c.in-Some-waits_for.ensures c.is_sent_for.ensures)
