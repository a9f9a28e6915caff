use Rattle.std.proofs.Common.{◌≡◌, ℕ, ◌∷◌, arith, sym, ◌∙◌, ap, subst}
use Rattle.tc_log.specs.declared.event.Event.{Event}
use Rattle.tc_log.specs.declared.event.Event.TheVariants.{Admit, Answer}
use Rattle.tc_log.specs.Entered.{seen}
use Rattle.history.specs.Calls.{txn_of}
use Rattle.transactions.specs.Standing.{standing}
use Rattle.call_results.specs.Joining.Along.{Follows, MayFollow}
use Rattle.call_results.proofs.Along.{may_answer, follows_begun, follows_answered}
use Rattle.call_results.proofs.rerun.Rerun.follow.Goals as goal

pub hear-requires : goal.hear-requires
hear-requires c =
    let t = c.args.txn in
    let e = seen c.args.event.now in
    let own : txn_of e ≡ t = omega (arith, c.txn_of.ensures, c.if-txn_of-txn.false) in
    let event_is : e ≡ Answer c.in-Answer.txn c.in-Answer.number c.in-Answer.said = ap seen c.in-Answer.is in
    let mine : c.in-Answer.txn ≡ t = sym (ap txn_of event_is) ∙ own in
    let is : e ≡ Answer t c.in-Answer.number c.in-Answer.said = event_is ∙ ap (λ (u : ℕ). Answer u c.in-Answer.number c.in-Answer.said) mine in
    let m = subst (λ (x : Event). MayFollow c.args.procs.now.codes c.args.self.now c.requires.0 x t) is c.requires.1 in
    let it = may_answer c.args.procs.now.codes c.args.self.now c.requires.0 t c.in-Answer.number c.in-Answer.said m in
    (it.0, it.2)

pub returns-in-Admit-clause-follows : goal.returns-in-Admit-clause-follows
returns-in-Admit-clause-follows c = λ h may.
    let t = c.args.txn in
    let e = seen c.args.event.now in
    let own : txn_of e ≡ t = omega (arith, c.txn_of.ensures, c.if-txn_of-txn.false) in
    let args = c.in-Admit.args.now in
    let event_is : e ≡ Admit c.in-Admit.txn c.in-Admit.proc args = ap seen c.in-Admit.is in
    let mine : c.in-Admit.txn ≡ t = sym (ap txn_of event_is) ∙ own in
    let is : e ≡ Admit t c.in-Admit.proc args = event_is ∙ ap (λ (u : ℕ). Admit u c.in-Admit.proc args) mine in
    let new = c.begin.new.self in
    let m = subst (λ (x : Event). MayFollow c.args.procs.now.codes c.args.self.now h x t) is may in
    subst (λ (x : Event). Follows c.args.procs.now.codes new (standing (x ∷ h) t)) (sym is)
    (follows_begun c.args.procs.now.codes c.args.self.now new h t c.in-Admit.proc args m
    c.begin.ensures.runs c.begin.ensures.names.1 c.begin.ensures.fresh.0 c.begin.ensures.fresh.1)

pub returns-in-Answer-clause-follows : goal.returns-in-Answer-clause-follows
returns-in-Answer-clause-follows c = λ h may.
    let t = c.args.txn in
    let e = seen c.args.event.now in
    let own : txn_of e ≡ t = omega (arith, c.txn_of.ensures, c.if-txn_of-txn.false) in
    let event_is : e ≡ Answer c.in-Answer.txn c.in-Answer.number c.in-Answer.said = ap seen c.in-Answer.is in
    let mine : c.in-Answer.txn ≡ t = sym (ap txn_of event_is) ∙ own in
    let is : e ≡ Answer t c.in-Answer.number c.in-Answer.said = event_is ∙ ap (λ (u : ℕ). Answer u c.in-Answer.number c.in-Answer.said) mine in
    let m = subst (λ (x : Event). MayFollow c.args.procs.now.codes c.args.self.now h x t) is may in
    subst (λ (x : Event). Follows c.args.procs.now.codes c.hear.new.self (standing (x ∷ h) t)) (sym is)
    (follows_answered c.args.procs.now.codes c.args.self.now c.hear.new.self h t c.in-Answer.number c.in-Answer.said m c.hear.ensures.along)
