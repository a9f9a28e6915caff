use Rattle.std.proofs.Common.{◌≡◌, Option, sym, ◌∙◌, ap, subst}
use Rattle.std.specs.Prelude.{IfSome}
use Rattle.transactions.specs.declared.Sent.{Sent}
use Rattle.transactions.specs.Standing.{Standing}
use Rattle.tc_core.specs.Core.{Core, Asking}
use Rattle.tc_core.specs.GivingUp.{IsOpenHere}
use Rattle.tc_core.specs.Recovery.{asking_by, asking_in, open_request}
use Rattle.tc_core.proofs.KeptLemmas.{seen-at}
use Rattle.tc_core.proofs.RecoveryLemmas.{request_is_open}
use Rattle.tc_core.proofs.state.TcState.request.Goals as goal

pub returns-clause-request : goal.returns-clause-request
returns-clause-request c =
    let t = c.args.txn.serial in
    let tx = c.at.result.now in
    let w = seen-at _ _ _ _ tx c.self.invariant.0 c.in_ok-key.ensures.found c.at.ensures in
    c.asking_by.ensures
    ∙ (ap (λ (x : Option Sent). asking_by t x) w.matches.keeps.sent
    ∙ (ap (λ (x : Option Standing). asking_in t x) (sym w.is)
    ∙ ap (λ (x : Core). open_request x t) c.self.view_is))

pub returns-clause-open_here : goal.returns-clause-open_here
returns-clause-open_here c =
    let t = c.args.txn.serial in
    let tx = c.at.result.now in
    let w = seen-at _ _ _ _ tx c.self.invariant.0 c.in_ok-key.ensures.found c.at.ensures in
    let is : c.asking_by.result ≡ open_request c.args.self.now t
    = c.asking_by.ensures
    ∙ (ap (λ (x : Option Sent). asking_by t x) w.matches.keeps.sent
    ∙ (ap (λ (x : Option Standing). asking_in t x) (sym w.is)
    ∙ ap (λ (x : Core). open_request x t) c.self.view_is)) in
    subst (λ (r : Option Asking). IfSome r (IsOpenHere c.args.self.now)) (sym is) (request_is_open c.args.self.now t)
