use Rattle.std.proofs.Common.{◌≡◌, ℕ, ◌+◌, true, false, ◌&&◌, ◌==◌, ◌∷◌, List, Option, arith, refl, sym, ◌∙◌, ap, subst}
use Rattle.std.specs.Prelude.{slice_get, Ok}
use Rattle.access_slots.specs.declared.op.Wire.{Wire}
use Rattle.request_numbers.specs.Given.{others}
use Rattle.history.specs.Flight.{given}
use Rattle.tc_log.specs.declared.event.Event.{Event}
use Rattle.tc_log.specs.declared.event.Event.TheVariants.{Ask, Answer}
use Rattle.transactions.specs.InFlight.{site_of}
use Rattle.transactions.specs.Legal.{Legal}
use Rattle.transactions.specs.declared.Redoing.{Redoing}
use Rattle.transactions.specs.declared.Site.{Site}
use Rattle.transactions.proofs.StandingLemmas.{eq-true}
use Rattle.tc_core.specs.Core.{Core, Asking}
use Rattle.tc_core.specs.Kept.{core_of}
use Rattle.tc_core.specs.Lent.{wire_of}
use Rattle.tc_core.specs.Joining.Answering.{MayHearAtOnce, IsAnsweredAtOnce}
use Rattle.tc_core.specs.Joining.Hearing.{Accepts}
use Rattle.tc_core.specs.Joining.Sends.{asking_under}
use Rattle.tc_core.specs.Replies.{ask_reply, asked_by, after_ask, after_answer, is_up, is_heard}
use Rattle.tc_core.specs.declared.state.Asked.TheVariants.{Request}
use Rattle.tc_core.proofs.AnsweringLemmas.{legal-asked, seen-asked, mark_asked, wire_asked}
use Rattle.tc_core.proofs.DoubtLemmas.{others_same}
use Rattle.tc_core.proofs.KeptLemmas.{Seen, seen-at, slice_get-short, is-answer}
use Rattle.tc_core.proofs.KeyLemmas.{serial-at}
use Rattle.tc_core.proofs.ReplyLemmas.{next-known}
use Rattle.tc_core.proofs.state.TcState.ask_at_once.Goals as goal

pub perform-requires : goal.perform-requires
perform-requires g c =
    let b = c.self.inside.book in
    let ps = c.self.inside.procs.codes in
    let h = b.log.events in
    let t = c.args.txn.serial in
    let core : Core = core_of c.self.inside.procs b in
    let kept = c.self.invariant.0.kept in
    let stands = c.in-Some.ensures.found in
    let wire = c.in-Some-next_wire.wire in
    let asks = c.in-Some-next_wire.ensures.asks stands.tx stands.found in
    let num = c.in-Some-next_wire.ensures.number in
    let r : Asking = record { txn = t; number = wire.number; op = wire.op } in
    let next = next-known core t stands.tx _ (seen-at _ _ _ _ stands.tx c.self.invariant.0 stands stands.found) asks in
    let number : given h + 1 ≡ wire.number = (let last = kept.last_is in omega (arith, num, last)) in
    let reply : ask_reply core t ≡ Request r = ap (asked_by t (given h)) next
    ∙ ap (λ (n : ℕ). let a : Asking = record { txn = t; number = n; op = wire.op } in Request a) number in
    let legal : Legal ps (Ask t wire.number wire.op ∷ h) = subst (λ (u : ℕ). Legal ps (Ask u wire.number wire.op ∷ h)) stands.serial
    (legal-asked _ _ _ _ _ _ _ _ _ _ _ _ kept stands.found asks num) in
    let sent = wire_asked core r (mark_asked ps h t wire.number wire.op legal) ∙ c.in-Some-next_wire.ensures.sent c.self.inside.procs t in
    let may = subst (λ (s : Core). (r : Asking) (w : Wire) → ask_reply s t ≡ Request r → Legal s.procs (after_ask s (Request r)).events
    → wire_of (after_ask s (Request r)) r ≡ Ok w → g.P.Performer.sent w) (sym c.self.view_is) c.requires in
    may r wire reply legal sent

pub at-code-requires : goal.at-code-requires
at-code-requires g c =
    let tx = c.at.result.now in
    let ps = c.self.inside.procs.codes in
    let m = (seen-at _ _ _ _ tx c.self.invariant.0 c.in-Some.ensures.found c.at.ensures).matches in
    slice_get-short ps tx.proc m.q (ap (slice_get ps) m.keeps.proc ∙ m.loaded)

pub invariant_of-self : goal.invariant_of-self
invariant_of-self g c =
    let ps = c.self.inside.procs.codes in
    let reply = c.in-Some-perform.reply in
    let may : MayHearAtOnce ps c.self.inside.book c.in-Some.key c.at-code.result.now c.in-Some-next_wire.wire reply.said = record {
      book = c.self.invariant.0;
      tx = c.at.result.now;
      found = c.at.ensures;
      loaded = c.at-code.ensures;
      asks = c.in-Some-next_wire.ensures.asks c.at.result.now c.at.ensures;
      number = c.in-Some-next_wire.ensures.number;
      fit = c.is_answered.ensures.fit c.if-not-is_answered.false;
    } in
    (c.answered_at_once.ensures.kept ps may, rw c.answered_at_once.ensures.sites c.self.invariant.1)

pub returns-clause-answered : goal.returns-clause-answered
returns-clause-answered g c = λ e.
    let b = c.self.inside.book in
    let b' = c.answered_at_once.new.self in
    let ps = c.self.inside.procs.codes in
    let h = b.log.events in
    let t = c.args.txn.serial in
    let core : Core = core_of c.self.inside.procs b in
    let kept = c.self.invariant.0.kept in
    let tx = c.at.result.now in
    let wire = c.in-Some-next_wire.wire in
    let n = wire.number in
    let o = wire.op in
    let x = c.in-Some-perform.reply in
    let asks = c.in-Some-next_wire.ensures.asks tx c.at.ensures in
    let num = c.in-Some-next_wire.ensures.number in
    let serial = serial-at _ _ _ tx c.in-Some.ensures.found c.at.ensures in
    let r : Asking = record { txn = t; number = n; op = o } in
    let next = next-known core t tx _ (seen-at _ _ _ _ tx c.self.invariant.0 c.in-Some.ensures.found c.at.ensures) asks in
    let number : given h + 1 ≡ n = (let last = kept.last_is in omega (arith, num, last)) in
    let reply : ask_reply core t ≡ Request r = ap (asked_by t (given h)) next
    ∙ ap (λ (m : ℕ). let a : Asking = record { txn = t; number = m; op = o } in Request a) number in
    let seen' : Seen ps (Ask t n o ∷ h) t (asking_under n o tx) = subst (λ (u : ℕ). Seen ps (Ask u n o ∷ h) u (asking_under n o tx)) serial
    (seen-asked _ _ _ _ _ _ _ _ _ _ _ _ kept c.at.ensures asks num) in
    let site = site_of core.sites o in
    let same_incarnation = c.in-Some-next_wire.ensures.incarnation ∙ c.is_answered.ensures.incarnation c.if-not-is_answered.false in
    let heard : is_heard site x ≡ true = ap (λ (redo : Option Redoing). is_up redo && (site.incarnation == x.incarnation)) c.in-Some-next_wire.ensures.up
    ∙ eq-true site.incarnation x.incarnation same_incarnation in
    let accepts : Accepts (asking_under n o tx) n o x.number x.said = record {
      r = record { number = n; op = o; undoing = false };
      waits = refl;
      same_number = refl;
      same_op = refl;
      agree = c.is_answered.ensures.number c.if-not-is_answered.false;
      fit = c.is_answered.ensures.fit c.if-not-is_answered.false;
    } in
    let events = subst (λ (u : ℕ). b'.log.events ≡ Answer u n x.said ∷ Ask u n o ∷ h) serial (c.answered_at_once.ensures.events tx c.at.ensures) in
    let unmarked = c.self.invariant.0.marked.early n (omega (arith, number)) in
    let as_is : List Event → List ℕ → List Site → Core = (λ es ns sites. record core { events = es; given_up = ns; sites = sites }) in
    let numbers : b'.given_up.numbers ≡ others n b.given_up.numbers = rw c.answered_at_once.ensures.given_up (sym (others_same b.given_up.numbers n unmarked)) in
    let sites : b'.sites.items ≡ b.sites.items = rw c.answered_at_once.ensures.sites refl in
    let it : IsAnsweredAtOnce t core (core_of c.self.inside.procs b') = record {
      r = r;
      x = x;
      asks = reply;
      answers = is-answer (after_ask core (Request r)) r x (asking_under n o tx) seen' heard accepts;
      state = ap (λ (es : List Event). as_is es b'.given_up.numbers b'.sites.items) events
          ∙ (ap (λ (ns : List ℕ). as_is (Answer t n x.said ∷ Ask t n o ∷ h) ns b'.sites.items) numbers
          ∙ ap (λ (ss : List Site). as_is (Answer t n x.said ∷ Ask t n o ∷ h) (after_answer (after_ask core (Request r)) r x.said).given_up ss) sites);
    } in
    subst (λ (s : Core). IsAnsweredAtOnce t s (core_of c.self.inside.procs b')) c.self.view_is it
