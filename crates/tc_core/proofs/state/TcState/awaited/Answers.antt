use Rattle.std.proofs.Common.{Option, sym, ◌∙◌, ap}
use Rattle.transactions.specs.declared.Sent.{Sent}
use Rattle.transactions.specs.Standing.{Standing, standing}
use Rattle.tc_core.specs.Core.{Core}
use Rattle.tc_core.specs.Joining.Follows.{awaited_by, awaited_in}
use Rattle.tc_core.proofs.KeptLemmas.{seen-at}
use Rattle.tc_core.proofs.state.TcState.awaited.Goals as goal

pub returns : goal.returns
returns c =
    let tx = c.at.result.now in
    let w = seen-at _ _ _ _ tx c.self.invariant.0 c.in_ok-key.ensures.found c.at.ensures in
    c.awaited_by.ensures
    ∙ (ap (λ (x : Option Sent). awaited_by x c.args.number) w.matches.keeps.sent
    ∙ (ap (λ (x : Option Standing). awaited_in x c.args.number) (sym w.is)
    ∙ ap (λ (x : Core). awaited_in (standing x.events c.args.txn) c.args.number) c.self.view_is))
