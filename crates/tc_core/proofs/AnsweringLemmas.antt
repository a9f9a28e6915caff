-- A question that is answered at once: what `ask` and `answer` keep, one after the other.
use Rattle.std.proofs.Common.{◌≡◌, ℕ, ◌+◌, ◌-◌, ◌<◌, Bool, true, false, not, cond, List, [], ◌∷◌, ◌++◌, Option, Some, None}
use Rattle.std.proofs.Common.{◌==◌, is_some, IsSome, arith, refl, sym, ◌∙◌, ap, subst}
use Rattle.std.specs.Prelude.{slice_get, Result, Ok}
use Rattle.access_slots.specs.declared.op.Wire.{Wire}
use Rattle.std.proofs.lemmas.Bool.{cond-false, cond-true}
use Rattle.std.proofs.lemmas.List.{append-nil}
use Rattle.std.proofs.lemmas.List.Elements.{filter-append}
use Rattle.std.proofs.lemmas.List.Sums.{sum_by-set}
use Rattle.access_slots.specs.Access.{fits}
use Rattle.access_slots.specs.declared.op.Op.{Op}
use Rattle.access_slots.specs.declared.op.Said.{Said}
use Rattle.verifier.specs.Checked.{Checked}
use Rattle.lock_table.specs.Facts.{Table}
use Rattle.request_numbers.specs.Given.{Given, others, holds}
use Rattle.tc_log.specs.declared.event.Event.{Event}
use Rattle.tc_log.specs.declared.event.Event.TheVariants.{Ask, Answer}
use Rattle.tc_log.specs.History.{History}
use Rattle.history.specs.Flight.{Flight, given, open_op, is_flight, is_open, open_numbers, low_water, AllAnswered}
use Rattle.history.proofs.Laws.{open_are_in_flight, computed_is}
use Rattle.transactions.specs.declared.Next.TheVariants.{Asks}
use Rattle.transactions.specs.declared.Sent.{Sent}
use Rattle.transactions.specs.Legal.{Legal}
use Rattle.transactions.proofs.StandingLemmas.{eq-true, eq-false, some_same}
use Rattle.transactions.proofs.LowWater.{mark_rises, flight_above}
use Rattle.transactions.proofs.Restarts.{flight_given}
use Rattle.slab.specs.Slab.{Slab, get, slab_len, Updates, with_value}
use Rattle.slab.proofs.SlabLemmas.{Updates-with_value, ContainsKey-within}
use Rattle.transactions.specs.InFlight.{site_of}
use Rattle.transactions.specs.declared.Redoing.{Redoing}
use Rattle.tc_core.specs.Core.{Core, Asking}
use Rattle.tc_core.specs.Lent.{wire_by, wire_of}
use Rattle.tc_core.specs.Replies.{after_ask}
use Rattle.tc_core.specs.declared.state.Asked.TheVariants.{Request}
use Rattle.tc_core.specs.declared.state.Down.{Down}
use Rattle.tc_core.specs.Joining.Hearing.{MayHear, Accepts, Heard}
use Rattle.tc_core.specs.Joining.Sends.{asking_under}
use Rattle.tc_core.specs.Kept.{Kept, Marked}
use Rattle.tc_core.specs.Running.{does}
use Rattle.tc_core.specs.declared.transaction.Tx.{Tx}
use Rattle.tc_core.proofs.DoubtLemmas.{others_same}
use Rattle.tc_core.proofs.MarkedLemmas.{stay_push, marked-moved, marked-answered}
use Rattle.tc_core.proofs.KeptLemmas.{Seen, seen, MaySend, may-send, kept-ask, may-answer, MayAnswer, kept-answer}

-- a number that isn't given out yet isn't open
not_open : (ps : List Checked) (h : List Event) → Legal ps h → (n : ℕ) → given h < n → holds n (open_numbers h) ≡ false
not_open ps h legal n late = open_are_in_flight h n ∙ by (open_op h n) refl
  where
    by : (o : Option Flight) → open_op h n ≡ o → is_open h n ≡ false
    by None is = ap is_flight is
    by (Some f) is = absurd (let few = flight_given ps h legal n f is in omega (arith, few, late))

-- without the last one, which isn't among the others, they are those
others_last : (ns : List ℕ) (n : ℕ) → holds n ns ≡ false → others n (ns ++ n ∷ []) ≡ ns
others_last ns n free =
    let last : others n (n ∷ []) ≡ [] = cond-false _ (n ∷ []) [] (ap not (eq-true n n refl)) in
    filter-append (λ m. not (m == n)) ns (n ∷ []) ∙ (ap (λ (ms : List ℕ). others n ns ++ ms) last ∙ (append-nil (others n ns) ∙ others_same ns n free))

-- the mark behind a question is the one before it
pub mark_asked : (ps : List Checked) (h : List Event) (t n : ℕ) (o : Op) → Legal ps (Ask t n o ∷ h) → low_water (Ask t n o ∷ h) ≡ low_water h
mark_asked ps h t n o legal =
    let e = Ask t n o in
    let mine : open_op (e ∷ h) n ≡ Some (record { txn = t; op = o }) = cond-true _ _ _ (eq-true n n refl) in
    let below = flight_above ps (e ∷ h) legal n _ mine in
    let all = (computed_is (e ∷ h)).all in
    let next = legal.0.next in
    let was : AllAnswered h (low_water (e ∷ h)) = record {
      given_out = omega (arith, below, next);
      answered = λ m some few. ap is_flight (sym (cond-false _ _ (open_op h m) (eq-false n m (omega (arith, few, below))))) ∙ all.answered m some few;
    } in
    let up = mark_rises ps h e legal.0 in
    let down = (computed_is h).greatest (low_water (e ∷ h)) was in
    omega (arith, up, down)

-- so what is sent is what would be sent before the question was logged
pub wire_asked : (c : Core) (r : Asking) → low_water (Ask r.txn r.number r.op ∷ c.events) ≡ low_water c.events
    → wire_of (after_ask c (Request r)) r ≡ wire_of c r
wire_asked c r mark = by (site_of c.sites r.op).incarnation (site_of c.sites r.op).redo
  where
    by : (i : ℕ) (redo : Option Redoing) → wire_by (after_ask c (Request r)) r i redo ≡ wire_by c r i redo
    by i None = ap (λ (n : ℕ). let w : Wire = record { number = r.number; low_water = n; incarnation = i; redo = false; op = r.op } in
        let o : Result Wire Down = Ok w in o) mark
    by i (Some redo) = refl

-- the transaction at a key is another one
len_with : (txns : Slab Tx) (key : ℕ) (tx tx' : Tx) → get txns key ≡ Some tx → slab_len (with_value txns key tx') ≡ slab_len txns
len_with txns key tx tx' found =
    let there : IsSome (get txns key) = ap is_some found in
    let set = sum_by-set (λ (o : Option Tx). cond (is_some o) 1 0) txns.slots key (Some tx') None (ContainsKey-within txns key there) in
    let one = ap (λ (x : Bool). let n : ℕ = cond x 1 0 in n) there in
    omega (arith, set, one)

module _ (ps : List Checked) (log : History) (table : Table) (numbers : Given) (txns : Slab Tx) (serials owed promised key n : ℕ) (tx : Tx) (o : Op)
    (k : Kept ps log table numbers txns serials owed promised) (found : get txns key ≡ Some tx) (asks : does tx ≡ Some (Asks o))
    (num : n ≡ numbers.last + 1) where
  here : Seen ps log.events tx.serial tx
  here = seen ps log table numbers txns serials owed promised key tx.serial tx k found refl

  pub may-ask-at-once : MaySend log numbers tx owed promised
  may-ask-at-once = may-send ps log table numbers txns serials owed promised tx.serial tx o k here asks

  -- what it does next is to ask, so it waits for nothing
  pub waits-for-nothing : tx.sent ≡ None
  waits-for-nothing = by tx.sent refl
    where
      by : (r : Option Sent) → tx.sent ≡ r → tx.sent ≡ None
      by None is = is
      by (Some r) is = absurd (let e = sym (ap (λ (x : Option Sent). does (record tx { sent = x })) is) ∙ asks in cc)

  abbrev asking : Tx
  asking = asking_under n o tx

  abbrev asked_txns : Slab Tx
  asked_txns = with_value txns key asking

  abbrev asked_log : History
  asked_log = record { events = Ask tx.serial n o ∷ log.events; room = log.room - 1 }

  abbrev asked_numbers : Given
  asked_numbers = record { last = n; pending = numbers.pending ++ n ∷ []; room = numbers.room - 1 }

  asked_updates : Updates txns asked_txns key (Some asking)
  asked_updates = Updates-with_value txns key asking (ap is_some found)

  asked : Kept ps asked_log table asked_numbers asked_txns serials (owed - 1) (promised - 1)
  asked =
      let room = may-ask-at-once.room in
      let place = may-ask-at-once.place in
      kept-ask ps log asked_log table numbers asked_numbers txns asked_txns serials owed promised key n tx asking o k found here asks num refl
      (omega (arith, room)) refl refl (omega (arith, place)) asked_updates (len_with txns key tx asking found) refl

  pub legal-asked : Legal ps (Ask tx.serial n o ∷ log.events)
  legal-asked = asked.legal

  pub seen-asked : Seen ps (Ask tx.serial n o ∷ log.events) tx.serial asking
  seen-asked = seen ps asked_log table asked_numbers asked_txns serials (owed - 1) (promised - 1) key tx.serial asking asked asked_updates.changed refl

  pub accepts-at-once : (said : Said) → fits o said ≡ true → Accepts asking n o n said
  accepts-at-once said fit =
      record { r = record { number = n; op = o; undoing = false }; waits = refl; same_number = refl; same_op = refl; agree = refl; fit = fit }

  pub may-answer-at-once : (said : Said) → fits o said ≡ true → MayAnswer ps asked_log asked_numbers asking seen-asked.s said n (owed - 1)
  may-answer-at-once said fit =
      may-answer ps asked_log table asked_numbers asked_txns serials (owed - 1) (promised - 1) tx.serial asking n n o said asked seen-asked (accepts-at-once said fit)

  pub hears-at-once : (q : Checked) (said : Said) → slice_get ps tx.proc ≡ Some q → fits o said ≡ true → MayHear q asking seen-asked.s said
  hears-at-once q said loaded fit =
      let may = may-answer-at-once said fit in
      subst (λ (x : Checked). MayHear x asking seen-asked.s said) (some_same may.q q (sym may.loaded ∙ loaded)) may.hears

  heard_asked : (txns' : Slab Tx) (q : Checked) (said : Said) → Heard q txns txns' key asking said → Heard q asked_txns txns' key asking said
  heard_asked txns' q said heard = record {
    after = heard.after;
    updates = record { changed = heard.updates.changed; others = λ other apart. heard.updates.others other apart ∙ sym (asked_updates.others other apart) };
    serial = heard.serial;
    certain = heard.certain;
    keeps = heard.keeps;
  }

  late : given log.events < n
  late = (let last = k.last_is in omega (arith, last, num))

  pub kept-at-once : (log' : History) (numbers' : Given) (txns' : Slab Tx) (q : Checked) (said : Said)
      → slice_get ps tx.proc ≡ Some q → fits o said ≡ true → Heard q txns txns' key asking said → slab_len txns' ≡ slab_len txns
      → log'.events ≡ Answer tx.serial n said ∷ Ask tx.serial n o ∷ log.events → log'.room + 2 ≡ log.room
      → numbers'.last ≡ n → numbers'.pending ≡ numbers.pending → numbers'.room ≡ numbers.room
      → Kept ps log' table numbers' txns' serials (owed - 1 - 1) (promised - 1)
  kept-at-once log' numbers' txns' q said loaded fit heard len events room last pend places =
      let place = may-ask-at-once.place in
      let free : holds n numbers.pending ≡ false = ap (holds n) k.pending_is ∙ not_open ps log.events k.legal n late in
      kept-answer ps asked_log log' table asked_numbers numbers' asked_txns txns' serials (owed - 1) (promised - 1) key n n asking o q said
      asked asked_updates.changed seen-asked (accepts-at-once said fit) loaded (hears-at-once q said loaded fit) (heard_asked txns' q said heard)
      (len ∙ sym (len_with txns key tx asking found)) events (omega (arith, room)) last
      (pend ∙ sym (others_last numbers.pending n free)) (omega (arith, places, place))

  pub marked-at-once : (ns : List ℕ) (h' : List Event) (txns' : Slab Tx) (q : Checked) (said : Said) → Marked ns log.events txns
      → slice_get ps tx.proc ≡ Some q → fits o said ≡ true → Heard q txns txns' key asking said
      → h' ≡ Answer tx.serial n said ∷ Ask tx.serial n o ∷ log.events → Marked ns h' txns'
  unfolding accepts-at-once heard_asked
  marked-at-once ns h' txns' q said m loaded fit heard events =
      let h = asked_log.events in
      let unmarked = m.early n late in
      let more : given h ≡ given log.events + 1 = refl in
      let moved = marked-moved ns log.events h txns asked_txns key asking m (omega (arith, more))
      (stay_push log.events h n refl) asked_updates (sym unmarked) in
      let same : given h' ≡ given h = ap given events in
      let it = heard_asked txns' q said heard in
      let silent = (heard.keeps seen-asked.s (hears-at-once q said loaded fit)).sent in
      subst (λ (xs : List ℕ). Marked xs h' txns') (others_same ns n unmarked)
      (marked-answered ps ns h h' asked_txns txns' key n asking heard.after (accepts-at-once said fit).r asked.legal asked.places moved
      asked_updates.changed refl refl (omega (arith, same)) (ap open_numbers events) it.updates it.certain silent)
