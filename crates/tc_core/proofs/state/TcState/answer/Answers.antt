use Rattle.std.proofs.Common.{◌≡◌, List, Some, None, arith, refl, sym, ◌∙◌, ap, subst, true}
use Rattle.std.specs.Prelude.{slice_get}
use Rattle.verifier.specs.Checked.{Checked}
use Rattle.tc_core.specs.Core.{Core, Asking}
use Rattle.tc_core.specs.Kept.{core_of}
use Rattle.tc_core.specs.Replies.{is_heard, IsAnswer}
use Rattle.transactions.specs.declared.Site.{Site}
use Rattle.transactions.specs.InFlight.{site_of}
use Rattle.tc_core.specs.Joining.Hearing.{MayHear, Accepts}
use Rattle.tc_core.specs.declared.transaction.Tx.{Tx}
use Rattle.transactions.proofs.StandingLemmas.{some_same}
use Rattle.history.specs.Flight.{given, open_numbers}
use Rattle.history.specs.Anew.{begun}
use Rattle.tc_core.specs.GivingUp.{Awaits}
use Rattle.tc_core.proofs.StartLemmas.{starts_event}
use Rattle.tc_core.proofs.GivingUpLemmas.{number-marked}
use Rattle.tc_core.proofs.MarkedLemmas.{marked-answered}
use Rattle.tc_core.proofs.KeptLemmas.{seen, Seen, may-answer, kept-answer, slice_get-short, is-answer, answer-accepts, seen-at}
use Rattle.tc_core.proofs.KeyLemmas.{serial-at}
use Rattle.tc_core.proofs.state.TcState.answer.Goals as goal

pub returns-then-not-accepts-clause-accepted : goal.returns-then-not-accepts-clause-accepted
returns-then-not-accepts-clause-accepted c =
    let tx = c.at-tx.result.now in
    let w = seen-at _ _ _ _ tx c.self.invariant.0 c.in-Some.ensures.found c.at-tx.ensures in
    let core : Core = core_of c.self.inside.procs c.self.inside.book in
    let w' : Seen core.procs core.events c.args.request.txn tx = subst (λ (x : Asking). Seen core.procs core.events x.txn tx) c.request.view_is w in (
      λ e. absurd (cc),
      λ here.
          let a = subst (λ (x : Core). IsAnswer x c.args.request c.args.reply) (sym c.self.view_is) here in
          let b = answer-accepts core c.args.request c.args.reply tx w' a in
          let b' = subst (λ (x : Asking). Accepts tx x.number x.op c.args.reply.number c.args.reply.said) (sym c.request.view_is) b in
          sym c.if-not-accepts.true ∙ c.accepts.ensures.1 b',
    )

pub at-code-requires : goal.at-code-requires
at-code-requires c =
    let tx = c.at-tx.result.now in
    let w = seen-at _ _ _ _ tx c.self.invariant.0 c.in-Some.ensures.found c.at-tx.ensures in
    let a = c.accepts.ensures.0 c.if-not-accepts.false in
    let may = may-answer _ _ _ _ _ _ _ _ _ tx _ _ _ _ c.self.invariant.0.kept w a in
    omega (arith, slice_get-short c.self.inside.procs.codes tx.proc may.q may.loaded)

pub hear-requires-clause-hears : goal.hear-requires-clause-hears
hear-requires-clause-hears c = λ ty found.
    let tx = c.at-tx.result.now in
    let w = seen-at _ _ _ _ tx c.self.invariant.0 c.in-Some.ensures.found c.at-tx.ensures in
    let a = c.accepts.ensures.0 c.if-not-accepts.false in
    let may = may-answer _ _ _ _ _ _ _ _ _ tx _ _ _ _ c.self.invariant.0.kept w a in
    let code : may.q ≡ c.at-code.result.now = some_same _ _ (sym may.loaded ∙ c.at-code.ensures) in
    let same : c.at-tx.result.now ≡ ty = some_same c.at-tx.result.now ty (sym c.at-tx.ensures ∙ found) in (
      w.s,
      subst (λ (x : Tx). MayHear c.at-code.result.now x w.s c.args.reply.said) same
          (subst (λ (x : Checked). MayHear x tx w.s c.args.reply.said) code may.hears),
    )

pub answered-requires : goal.answered-requires
answered-requires c =
    let tx = c.at-tx.result.now in
    let w = seen-at _ _ _ _ tx c.self.invariant.0 c.in-Some.ensures.found c.at-tx.ensures in
    let a = c.accepts.ensures.0 c.if-not-accepts.false in
    (may-answer _ _ _ _ _ _ _ _ _ tx _ _ _ _ c.self.invariant.0.kept w a).holds'

pub remove-requires : goal.remove-requires
remove-requires c =
    let tx = c.at-tx.result.now in
    let a = c.accepts.ensures.0 c.if-not-accepts.false in
    let waits : Awaits tx c.request.inside.number c.request.inside.op =
    record { r = a.r; waits = a.waits; same_number = a.same_number; same_op = a.same_op } in
    number-marked _ _ _ _ tx c.request.inside.number c.request.inside.op c.self.invariant.0.marked c.at-tx.ensures waits

pub push-requires : goal.push-requires
push-requires c =
    let tx = c.at-tx.result.now in
    let w = seen-at _ _ _ _ tx c.self.invariant.0 c.in-Some.ensures.found c.at-tx.ensures in
    let a = c.accepts.ensures.0 c.if-not-accepts.false in
    (may-answer _ _ _ _ _ _ _ _ _ tx _ _ _ _ c.self.invariant.0.kept w a).room

pub overflow_sub-self : goal.overflow_sub-self
overflow_sub-self c =
    let tx = c.at-tx.result.now in
    let w = seen-at _ _ _ _ tx c.self.invariant.0 c.in-Some.ensures.found c.at-tx.ensures in
    let a = c.accepts.ensures.0 c.if-not-accepts.false in
    (may-answer _ _ _ _ _ _ _ _ _ tx _ _ _ _ c.self.invariant.0.kept w a).owed_left

pub invariant_of-self : goal.invariant_of-self
invariant_of-self c =
    let tx = c.at-tx.result.now in
    let serial = serial-at _ _ _ tx c.in-Some.ensures.found c.at-tx.ensures in
    let w = seen _ _ _ _ _ _ _ _ _ _ tx c.self.invariant.0.kept c.at-tx.ensures refl in
    let a = c.accepts.ensures.0 c.if-not-accepts.false in
    let may = may-answer _ _ _ _ _ _ _ _ _ tx _ _ _ _ c.self.invariant.0.kept w a in
    let loaded : slice_get c.self.inside.procs.codes tx.proc ≡ Some c.at-code.result.now = c.at-code.ensures in
    let code : may.q ≡ c.at-code.result.now = some_same _ _ (sym may.loaded ∙ loaded) in
    let hears = subst (λ (x : Checked). MayHear x tx w.s c.args.reply.said) code may.hears in
    let heard = c.hear.ensures.updates tx c.at-tx.ensures in
    let more : given c.push.new.self.events ≡ given c.self.inside.book.log.events = ap given c.push.ensures.events in
    let silent : heard.after.sent ≡ None = (heard.keeps w.s hears).sent in (
      record {
        kept =
            kept-answer _ _ _ _ _ _ _ _ _ _ _ _ c.request.inside.number c.args.reply.number tx c.request.inside.op
            c.at-code.result.now c.args.reply.said c.self.invariant.0.kept c.at-tx.ensures w a loaded hears
            heard c.hear.ensures.len (rw (← serial) at c.push.ensures.events) c.push.ensures.room c.answered.ensures.last c.answered.ensures.pending c.answered.ensures.room;
        doubts = omega (arith, c.self.invariant.0.doubts, c.hear.ensures.len, c.remove.ensures.room);
        marked = rw c.remove.ensures.numbers
            (marked-answered c.self.inside.procs.codes _ _ _ _ _ _ _ tx heard.after a.r c.self.invariant.0.kept.legal c.self.invariant.0.kept.places
            c.self.invariant.0.marked c.at-tx.ensures a.waits a.same_number (omega (arith, more))
            (ap open_numbers c.push.ensures.events) heard.updates heard.certain silent);
        from = (let same : begun c.push.new.self.events ≡ begun c.self.inside.book.log.events =
            ap begun c.push.ensures.events in omega (arith, same, c.remove.ensures.from, c.self.invariant.0.from));
        starts = starts_event _ _ _ _ _ c.push.ensures.events c.self.invariant.0.starts;
      },
      c.self.invariant.1,
    )

pub returns-clause-accepted : goal.returns-clause-accepted
returns-clause-accepted c =
    let tx = c.at-tx.result.now in
    let w = seen-at _ _ _ _ tx c.self.invariant.0 c.in-Some.ensures.found c.at-tx.ensures in
    let core : Core = core_of c.self.inside.procs c.self.inside.book in
    let w' : Seen core.procs core.events c.args.request.txn tx = subst (λ (x : Asking). Seen core.procs core.events x.txn tx) c.request.view_is w in
    let a = c.accepts.ensures.0 c.if-not-accepts.false in
    let a' = subst (λ (x : Asking). Accepts tx x.number x.op c.args.reply.number c.args.reply.said) c.request.view_is a in
    let sites = ap (λ (ss : List Site). is_heard (site_of ss c.request.inside.op) c.args.reply) c.as_slice.ensures.value in
    let here : is_heard (site_of core.sites c.request.inside.op) c.args.reply ≡ true
    = sym sites ∙ (ap (λ (s : Site). is_heard s c.args.reply) (sym c.site_of.ensures) ∙ (sym c.is_heard.ensures ∙ c.if-not-is_heard.false)) in
    let heard = subst (λ (x : Asking). is_heard (site_of core.sites x.op) c.args.reply ≡ true) c.request.view_is here in
    let it = is-answer core c.args.request c.args.reply tx w' heard a' in
    (λ e. subst (λ (x : Core). IsAnswer x c.args.request c.args.reply) c.self.view_is it, λ b. refl)
