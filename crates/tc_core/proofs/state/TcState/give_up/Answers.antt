use Rattle.std.proofs.Common.{◌≡◌, ℕ, List, true, false, arith, sym, ◌∙◌, ap, subst}
use Rattle.transactions.proofs.StandingLemmas.{none_some}
use Rattle.tc_core.specs.Core.{Core, Asking}
use Rattle.tc_core.specs.Kept.{core_of}
use Rattle.tc_core.specs.GivingUp.{IsOpenHere, with_given_up}
use Rattle.tc_core.proofs.MarkedLemmas.{kept-doubt, marked-doubt}
use Rattle.tc_core.proofs.KeptLemmas.{places-absent, Seen, seen-at}
use Rattle.tc_core.proofs.GivingUpLemmas.{open-awaits, awaits-open, open-number, room-for, number-marked, given-again, number-behind}
use Rattle.tc_core.proofs.state.TcState.give_up.Goals as goal

pub returns-in_default-clause-open_here : goal.returns-in_default-clause-open_here
returns-in_default-clause-open_here c = λ o.
    let core : Core = core_of c.self.inside.procs c.self.inside.book in
    let r : Asking = record { txn = c.request.inside.txn; number = c.request.inside.number; op = c.request.inside.op } in
    let here : IsOpenHere core r = subst (λ (x : Asking). IsOpenHere core x) (sym c.request.view_is)
    (subst (λ (x : Core). IsOpenHere x c.args.request) (sym c.self.view_is) o) in
    absurd (none_some _ here.s (places-absent _ _ _ c.self.invariant.0.kept.places _ c.in_default.ensures.absent) here.is)

pub returns-then-not-awaits-clause-open_here : goal.returns-then-not-awaits-clause-open_here
returns-then-not-awaits-clause-open_here c = λ o.
    let core : Core = core_of c.self.inside.procs c.self.inside.book in
    let r : Asking = record { txn = c.request.inside.txn; number = c.request.inside.number; op = c.request.inside.op } in
    let tx = c.at-tx.result.now in
    let w : Seen core.procs core.events r.txn tx = seen-at _ _ _ _ tx c.self.invariant.0 c.in-Some.ensures.found c.at-tx.ensures in
    let here : IsOpenHere core r = subst (λ (x : Asking). IsOpenHere core x) (sym c.request.view_is)
    (subst (λ (x : Core). IsOpenHere x c.args.request) (sym c.self.view_is) o) in
    let bad : false ≡ true = sym c.if-not-awaits.true ∙ c.awaits.ensures.1 (open-awaits core r tx w here) in
    absurd (cc)

pub returns-then-tx-clause-open_here : goal.returns-then-tx-clause-open_here
returns-then-tx-clause-open_here c = λ o.
    let core : Core = core_of c.self.inside.procs c.self.inside.book in
    let n = c.request.inside.number in
    let there = number-marked _ _ _ _ c.at-tx.result.now n c.request.inside.op c.self.invariant.0.marked c.at-tx.ensures
    (c.awaits.ensures.0 c.if-not-awaits.false) ∙ c.if-tx.true in
    sym c.self.view_is ∙ given-again core n there ∙ ap (λ (x : Core). with_given_up x n) c.self.view_is
    ∙ ap (λ (r : Asking). with_given_up c.args.self.now r.number) c.request.view_is

pub returns-clause-open_here : goal.returns-clause-open_here
returns-clause-open_here c = λ o.
    let core : Core = core_of c.self.inside.procs c.self.inside.book in
    let n = c.request.inside.number in
    let free = number-marked _ _ _ _ c.at-tx.result.now n c.request.inside.op c.self.invariant.0.marked c.at-tx.ensures
    (c.awaits.ensures.0 c.if-not-awaits.false) ∙ c.if-tx.false in
    ap (λ (ns : List ℕ). record core { given_up = ns }) (c.add.ensures.numbers ∙ number-behind core.given_up n free)
    ∙ ap (λ (x : Core). with_given_up x n) c.self.view_is ∙ ap (λ (r : Asking). with_given_up c.args.self.now r.number) c.request.view_is

pub add-requires : goal.add-requires
add-requires c =
    let core : Core = core_of c.self.inside.procs c.self.inside.book in
    let r : Asking = record { txn = c.request.inside.txn; number = c.request.inside.number; op = c.request.inside.op } in
    let tx = c.at-tx.result.now in
    let w : Seen core.procs core.events r.txn tx = seen-at _ _ _ _ tx c.self.invariant.0 c.in-Some.ensures.found c.at-tx.ensures in
    let a = c.awaits.ensures.0 c.if-not-awaits.false in
    let n = open-number core r c.self.invariant.0.kept.legal (awaits-open core r tx w a) in
    let free = number-marked _ _ _ _ tx r.number r.op c.self.invariant.0.marked c.at-tx.ensures a ∙ c.if-tx.false in
    room-for core.procs c.self.inside.book r.number c.self.invariant.0 n.0 n.1 n.2 free

pub returns-clause-elsewhere : goal.returns-clause-elsewhere
returns-clause-elsewhere c = λ no.
    let core : Core = core_of c.self.inside.procs c.self.inside.book in
    let r : Asking = record { txn = c.request.inside.txn; number = c.request.inside.number; op = c.request.inside.op } in
    let tx = c.at-tx.result.now in
    let w : Seen core.procs core.events r.txn tx = seen-at _ _ _ _ tx c.self.invariant.0 c.in-Some.ensures.found c.at-tx.ensures in
    let here = awaits-open core r tx w (c.awaits.ensures.0 c.if-not-awaits.false) in
    absurd (no (subst (λ (x : Core). IsOpenHere x c.args.request) c.self.view_is (subst (λ (x : Asking). IsOpenHere core x) c.request.view_is here)))

pub invariant_of-self : goal.invariant_of-self
invariant_of-self c =
    let core : Core = core_of c.self.inside.procs c.self.inside.book in
    let r : Asking = record { txn = c.request.inside.txn; number = c.request.inside.number; op = c.request.inside.op } in
    let tx = c.at-tx.result.now in
    let w : Seen core.procs core.events r.txn tx = seen-at _ _ _ _ tx c.self.invariant.0 c.in-Some.ensures.found c.at-tx.ensures in
    let a = c.awaits.ensures.0 c.if-not-awaits.false in
    let n = open-number core r c.self.invariant.0.kept.legal (awaits-open core r tx w a) in
    let up = c.doubt.ensures.updates tx c.at-tx.ensures in
    let free = number-marked _ _ _ _ tx r.number r.op c.self.invariant.0.marked c.at-tx.ensures a ∙ c.if-tx.false in (
      record {
        kept = kept-doubt _ _ _ _ _ _ _ _ _ _ tx c.self.invariant.0.kept c.at-tx.ensures up c.doubt.ensures.len;
        from = rw c.add.ensures.from c.self.invariant.0.from;
        doubts = omega (arith, c.self.invariant.0.doubts, c.doubt.ensures.len, c.add.ensures.room);
        marked = rw (c.add.ensures.numbers ∙ number-behind core.given_up r.number free)
            (marked-doubt core.procs _ _ _ _ _ _ tx a.r c.self.invariant.0.kept.legal c.self.invariant.0.kept.places c.self.invariant.0.marked c.at-tx.ensures a.waits a.same_number n.0 n.1 n.2 up);
        starts = c.self.invariant.0.starts;
      },
      c.self.invariant.1,
    )
