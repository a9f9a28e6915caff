use Rattle.std.proofs.Common.{Option, sym, ◌∙◌, ap}
use Rattle.transactions.specs.Standing.{Standing, standing}
use Rattle.tc_core.specs.Core.{Core}
use Rattle.tc_core.specs.Recovery.{sent_in}
use Rattle.tc_core.proofs.KeptLemmas.{seen-at}
use Rattle.tc_core.proofs.state.TcState.waits_for.Goals as goal

pub returns : goal.returns
returns c =
    let w = seen-at _ _ _ _ c.at.result.now c.self.invariant.0 c.in_ok-key.ensures.found c.at.ensures in
    w.matches.keeps.sent
    ∙ (ap (λ (x : Option Standing). sent_in x) (sym w.is)
    ∙ ap (λ (x : Core). sent_in (standing x.events c.args.txn.serial)) c.self.view_is)
