-- A request that is open here, and its transaction as it is kept.
use Rattle.std.proofs.Common.{◌≡◌, ℕ, ◌+◌, ◌<◌, ◌≤◌, Bool, false, true, List, ◌∷◌, [], ◌++◌, length, length-append, Some, None, arith, refl, sym, ◌∙◌, ap, subst}
use Rattle.access_slots.specs.declared.op.Op.{Op}
use Rattle.request_numbers.specs.Given.{holds}
use Rattle.slab.specs.Slab.{Slab, get}
use Rattle.verifier.specs.Checked.{Checked}
use Rattle.tc_log.specs.declared.event.Event.{Event}
use Rattle.tc_log.specs.declared.event.Event.TheVariants.{Admit, Ask, Answer, Undo, End}
use Rattle.history.specs.Calls.{admitted, txn_of}
use Rattle.history.specs.Flight.{given, open_numbers}
use Rattle.transactions.specs.Legal.{Legal}
use Rattle.transactions.specs.Room.{places_left, each_one, weighed, total}
use Rattle.transactions.specs.Standing.{Standing, standing, moved, asked, undone}
use Rattle.transactions.proofs.StandingLemmas.{some_same, total-moved, total-kept, total-admit, total-none}
use Rattle.transactions.proofs.Flights.{standing_flight, flight, open_flight, flight_holds}
use Rattle.transactions.proofs.LowWater.{flight_some}
use Rattle.tc_core.specs.Core.{Core, Asking}
use Rattle.tc_core.specs.Doubts.{with_number, with_number_by}
use Rattle.tc_core.specs.GivingUp.{IsOpenHere, Awaits, with_given_up}
use Rattle.tc_core.specs.Kept.{Marked, IsBook, is_doubted}
use Rattle.tc_core.specs.declared.book.Book.{Book}
use Rattle.tc_core.specs.declared.transaction.Tx.{Tx}
use Rattle.tc_core.proofs.KeptLemmas.{Seen}
use Rattle.tc_core.proofs.DoubtLemmas.{others_fewer, fewer_than}

pub open-awaits : (c : Core) (r : Asking) (tx : Tx) (w : Seen c.procs c.events r.txn tx) → IsOpenHere c r → Awaits tx r.number r.op
open-awaits c r tx w o =
    let same : o.s ≡ w.s = some_same o.s w.s (sym o.is ∙ w.is) in
    record { r = o.sent; waits = w.matches.keeps.sent ∙ (sym (ap (λ (x : Standing). x.sent) same) ∙ o.waits); same_number = o.same_number; same_op = o.same_op }

pub awaits-open : (c : Core) (r : Asking) (tx : Tx) (w : Seen c.procs c.events r.txn tx) → Awaits tx r.number r.op → IsOpenHere c r
awaits-open c r tx w a = record { s = w.s; is = w.is; sent = a.r; waits = sym w.matches.keeps.sent ∙ a.waits; same_number = a.same_number; same_op = a.same_op }

pub open-number : (c : Core) (r : Asking) → Legal c.procs c.events → IsOpenHere c r
    → (0 < r.number) × (r.number ≤ given c.events) × (holds r.number (open_numbers c.events) ≡ true)
open-number c r legal o =
    let f = standing_flight c.procs c.events legal r.txn o.s o.sent o.is o.waits in
    let some = flight_some c.procs c.events legal o.sent.number (flight r.txn o.sent.op) f.1 in (
      omega (arith, some, o.same_number),
      omega (arith, f.0, o.same_number),
      flight_holds c.events r.number (open_flight c.procs c.events legal r.txn o.s o.sent r.number o.is o.waits o.same_number),
    )

-- ---- how many numbers are open

abbrev AreFew : List Event → Type 0
AreFew h = length (open_numbers h) + total places_left h ≤ total each_one h

-- one is given out, in place of a place
sent_few : (ps : List Checked) (h : List Event) (e : Event) (n : ℕ) (s s' : Standing) → Legal ps h → AreFew h → standing h (txn_of e) ≡ Some s
    → s.sent ≡ None → admitted (e ∷ h) ≡ admitted h → moved e (Some s) ≡ Some s' → places_left s' ≡ 0
    → open_numbers (e ∷ h) ≡ open_numbers h ++ n ∷ [] → AreFew (e ∷ h)
sent_few ps h e n s s' legal few is idle same goes none more =
    let one : places_left s ≡ 1 = rw idle refl in
    let places = total-moved places_left ps h legal e s is same in
    let count = total-moved each_one ps h legal e s is same in
    let after : weighed places_left (moved e (Some s)) ≡ 0 = ap (weighed places_left) goes ∙ none in
    let there : weighed each_one (moved e (Some s)) ≡ 1 = ap (weighed each_one) goes in
    omega (arith, few, one, places, count, after, there, ap length more, length-append (open_numbers h) (n ∷ []))

opens_few : (ps : List Checked) (h : List Event) → Legal ps h → AreFew h
opens_few ps [] legal = omega (arith, total-none places_left)
opens_few ps (Admit t p args ∷ h) legal =
    let next = legal.0.next in
    omega (arith, opens_few ps h legal.1, total-admit places_left h t p args next, total-admit each_one h t p args next)
opens_few ps (Ask t n o ∷ h) legal =
    let a = legal.0 in
    sent_few ps h (Ask t n o) n a.s (asked n o a.s) legal.1 (opens_few ps h legal.1) a.is a.idle refl refl refl refl
opens_few ps (Undo t n o ∷ h) legal =
    let a = legal.0 in
    sent_few ps h (Undo t n o) n a.s (undone n o a.s) legal.1 (opens_few ps h legal.1) a.is a.idle refl refl refl refl
opens_few ps (Answer t n said ∷ h) legal =
    let a = legal.0 in
    let none : places_left a.s ≡ 0 = rw a.waits refl in
    let places = total-moved places_left ps h legal.1 (Answer t n said) a.s a.is refl in
    let count = total-moved each_one ps h legal.1 (Answer t n said) a.s a.is refl in
    let there = flight_holds h n (open_flight ps h legal.1 t a.s a.r n a.is a.waits a.number) in
    omega (arith, opens_few ps h legal.1, none, places, count, others_fewer (open_numbers h) n there)
opens_few ps (End t o ∷ h) legal =
    let a = legal.0 in
    let one : places_left a.s ≡ 1 = rw a.idle refl in
    let places = total-moved places_left ps h legal.1 (End t o) a.s a.is refl in
    let count = total-moved each_one ps h legal.1 (End t o) a.s a.is refl in
    omega (arith, opens_few ps h legal.1, one, places, count)
opens_few ps (e ∷ h) legal =
    let places = total-kept places_left ps h e legal.1 legal.0 (λ was. refl) in
    let count = total-kept each_one ps h e legal.1 legal.0 (λ was. refl) in
    omega (arith, opens_few ps h legal.1, places, count)

-- there is room for one that is open and wasn't given up
pub room-for : (ps : List Checked) (b : Book) (n : ℕ) → IsBook ps b → 0 < n → n ≤ given b.log.events
    → holds n (open_numbers b.log.events) ≡ true → holds n b.given_up.numbers ≡ false → length b.given_up.numbers < b.given_up.room
room-for ps b n is some few here free =
    omega (
      arith,
      fewer_than b.given_up.numbers (open_numbers b.log.events) n (given b.log.events) some few is.marked.open_yet free here is.marked.once,
      opens_few ps b.log.events is.kept.legal,
      is.kept.rooms.count,
      is.doubts,
    )

-- the mark of its transaction tells whether its number was given up
pub number-marked : (ns : List ℕ) (h : List Event) (txns : Slab Tx) (key : ℕ) (tx : Tx) (number : ℕ) (o : Op) → Marked ns h txns
    → get txns key ≡ Some tx → Awaits tx number o → holds number ns ≡ tx.in_doubt
number-marked ns h txns key tx number o m found a =
    ap (λ (n : ℕ). holds n ns) (sym a.same_number) ∙ sym (m.marks key tx found ∙ ap (is_doubted ns) a.waits)

-- one that was given up is there
pub given-again : (c : Core) (n : ℕ) → holds n c.given_up ≡ true → c ≡ with_given_up c n
given-again c n there = ap (λ (b : Bool). record c { given_up = with_number_by b n c.given_up }) (sym there)

-- one that wasn't comes behind the others
pub number-behind : (ns : List ℕ) (n : ℕ) → holds n ns ≡ false → ns ++ n ∷ [] ≡ with_number n ns
number-behind ns n free = ap (λ (b : Bool). with_number_by b n ns) (sym free)
