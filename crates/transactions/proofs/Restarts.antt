-- What is redone: operations that were answered, in the order of their numbers, covered and apart from all else in flight.
use Rattle.std.proofs.Common.{◌≡◌, ◌≢◌, ℕ, zero, suc, ◌+◌, ◌-◌, ◌≤◌, ◌<◌, Bool, true, false, not, ◌&&◌, cond, List, [], ◌∷◌, Option}
use Rattle.std.proofs.Common.{Some, None, arith, refl, sym, ◌∙◌, ap, subst, inl, inr, ◌==◌}
use Rattle.std.proofs.lemmas.Bool.{cases_eq, cases_lt, cond-true, cond-false, eqb-true}
use Rattle.access_slots.specs.declared.op.Op.{Op}
use Rattle.access_slots.specs.declared.op.Said.{Said}
use Rattle.access_slots.specs.declared.slot.Record.{Record}
use Rattle.access_slots.specs.Locks.{record_eq, allows, target, is_read, conflict}
use Rattle.access_slots.proofs.Records.{eq_is}
use Rattle.verifier.specs.Checked.{Checked}
use Rattle.tc_log.specs.declared.event.Event.{Event}
use Rattle.tc_log.specs.declared.event.Event.TheVariants.{Admit, Answer, End, Checkpoint}
use Rattle.history.specs.declared.Answered.{Answered}
use Rattle.history.specs.Calls.{Call, admitted, held_for, open_call, call_of, locks_of}
use Rattle.history.specs.Flight.{Flight, given, open_op}
use Rattle.history.specs.Redo.{answered, with_answer, is_done, is_done_at, if_done_at, done_at, or_else, first_done, to_redo, IsToRedo}
use Rattle.transactions.specs.declared.Redoing.{Redoing}
use Rattle.transactions.specs.declared.Site.{Site}
use Rattle.transactions.specs.Reached.{decls, AllGood}
use Rattle.transactions.specs.Legal.{Legal}
use Rattle.transactions.specs.InFlight.{site_at, to_redo_by, under_redo, IsOpenAtSite, IsUnderRedo, InFlight, Open, Again}
use Rattle.transactions.proofs.StandingLemmas.{eq-true, eq-false, some_same, none_some}
use Rattle.transactions.proofs.LowWater.{given_grows}
use Rattle.transactions.proofs.Flights.{standing_flight}
use Rattle.transactions.proofs.Headline.{awaited, flight_covered, flights_apart}

-- ---- what was answered

-- an answer to what was in flight
record IsAnswerTo (f : Option Flight) (n : ℕ) (said : Said) (a : Answered) : Type 0 where
  flight : Flight
  is : f ≡ Some flight
  txn : a.txn ≡ flight.txn
  number : a.number ≡ n
  op : a.op ≡ flight.op
  same : a.said ≡ said

answers_to : (f : Option Flight) (n : ℕ) (said : Said) (a : Answered) → with_answer n said f ≡ Some a → IsAnswerTo f n said a
answers_to None n said a is = absurd cc
answers_to (Some f) n said a is =
    let e = some_same _ a is in
    record {
      flight = f;
      is = refl;
      txn = sym (ap (λ (x : Answered). x.txn) e);
      number = sym (ap (λ (x : Answered).
          x.number) e);
      op = sym (ap (λ (x : Answered). x.op) e);
      same = sym (ap (λ (x : Answered). x.said) e);
    }

pub flight_given : (ps : List Checked) (h : List Event) → Legal ps h → (n : ℕ) (f : Flight) → open_op h n ≡ Some f → n ≤ given h
flight_given ps h legal n f is =
    let a = awaited ps h legal n f is in
    let few = (standing_flight ps h legal f.txn a.s a.r a.is a.waits).0 in
    omega (arith, few, a.number)

pub answered_number : (h : List Event) (n : ℕ) (a : Answered) → answered h n ≡ Some a → a.number ≡ n
answered_number [] n a is = absurd cc
answered_number (Answer t m said ∷ h) n a is = elim (cases_eq m n) [
  | inl same ↦ (answers_to (open_op h n) n said a (sym (cond-true _ _ _ (eq-true m n same)) ∙ is)).number
  | inr differ ↦ answered_number h n a (sym (cond-false _ _ _ (eq-false m n differ)) ∙ is)
]
answered_number (_ ∷ h) n a is = answered_number h n a is

-- only numbers that were given out are answered
pub answered_given : (ps : List Checked) (h : List Event) → Legal ps h → (n : ℕ) (a : Answered) → answered h n ≡ Some a → n ≤ given h
answered_given ps [] legal n a is = absurd cc
answered_given ps (Answer t m said ∷ h) legal n a is = elim (cases_eq m n) [
  | inl same ↦
      let it = answers_to (open_op h n) n said a (sym (cond-true _ _ _ (eq-true m n same)) ∙ is) in
      flight_given ps h legal.1 n it.flight it.is
  | inr differ ↦ answered_given ps h legal.1 n a (sym (cond-false _ _ _ (eq-false m n differ)) ∙ is)
]
answered_given ps (e ∷ h) legal n a is =
    let few = answered_given ps h legal.1 n a is in
    let more = given_grows ps h e legal.0 in
    omega (arith, few, more)

-- ---- the least number that was done

done_is : (d : ℕ) (o : Option Answered) (a : Answered) → if_done_at d o ≡ Some a → (o ≡ Some a) × (is_done_at d a ≡ true)
done_is d None a is = absurd cc
done_is d (Some b) a is = by (is_done_at d b) refl
  where
    by : (x : Bool) → is_done_at d b ≡ x → (Some b ≡ Some a) × (is_done_at d a ≡ true)
    by false e = absurd (none_some _ a (cond-false _ (Some b) None e) is)
    by true e =
        let same : Some b ≡ Some a = sym (cond-true _ (Some b) None e) ∙ is in
        (same, subst (λ (x : Answered). is_done_at d x ≡ true) (some_same b a same) e)

pub done_number : (h : List Event) (d n : ℕ) (a : Answered) → done_at h d n ≡ Some a → a.number ≡ n
done_number h d n a is = answered_number h n a (done_is d (answered h n) a is).0

-- of so many numbers above this one, it is the least that was done
abbrev IsFirst : List Event → ℕ → ℕ → ℕ → Option Answered → Type 0
IsFirst h d after many None = (m : ℕ) → after < m → m ≤ after + many → done_at h d m ≡ None
IsFirst h d after many (Some a) = (after < a.number) × (done_at h d a.number ≡ Some a) × ((m : ℕ) → after < m → m < a.number → done_at h d m ≡ None)

first_is : (h : List Event) (d after many : ℕ) → IsFirst h d after many (first_done h d after many)
first_is h d after zero = λ m above few. absurd (omega (arith, above, few))
first_is h d after (suc more) = by (done_at h d (after + 1)) refl (first_is h d (after + 1) more)
  where
    later : done_at h d (after + 1) ≡ None → (rest : Option Answered) → IsFirst h d (after + 1) more rest → IsFirst h d after (suc more) rest
    later none None first = λ m above few. elim (cases_eq m (after + 1)) [
      | inl same ↦ ap (done_at h d) same ∙ none
      | inr differ ↦ first m (omega (arith, above, differ)) (omega (arith, few))
    ]
    later none (Some a) first = (let beyond = first.0 in (
      omega (arith, beyond),
      first.1,
      λ m above below. elim (cases_eq m (after + 1)) [
        | inl same ↦ ap (done_at h d) same ∙ none
        | inr differ ↦ first.2 m (omega (arith, above, differ)) below
      ],
    ))

    by : (o : Option Answered) → done_at h d (after + 1) ≡ o → IsFirst h d (after + 1) more (first_done h d (after + 1) more)
        → IsFirst h d after (suc more) (or_else o (first_done h d (after + 1) more))
    by None is rest = later is (first_done h d (after + 1) more) rest
    by (Some a) is rest =
        let number : a.number ≡ after + 1 = done_number h d (after + 1) a is in
        (omega (arith, number), ap (done_at h d) number ∙ is, λ m above below. absurd (omega (arith, number, above, below)))

pub to_redo_is : (ps : List Checked) (h : List Event) → Legal ps h → (d redone : ℕ) → IsToRedo h d redone (to_redo h d redone)
to_redo_is ps h legal d redone = whole (to_redo h d redone) (first_is h d redone (given h - redone))
  where
    none_late : (m : ℕ) → given h < m → (o : Option Answered) → answered h m ≡ o → if_done_at d o ≡ None
    none_late m late None is = refl
    none_late m late (Some a) is = absurd (let few = answered_given ps h legal m a is in omega (arith, few, late))

    whole : (o : Option Answered) → IsFirst h d redone (given h - redone) o → IsToRedo h d redone o
    whole None first = λ m above. elim (cases_lt (given h) m) [
      | inl late ↦ none_late m late (answered h m) refl
      | inr early ↦ first m above (omega (arith, above, early))
    ]
    whole (Some a) first = first

-- it is the only one
pub to_redo_only : (h : List Event) (d redone : ℕ) (x y : Option Answered) → ((n : ℕ) (a : Answered) → done_at h d n ≡ Some a → a.number ≡ n)
    → IsToRedo h d redone x → IsToRedo h d redone y → x ≡ y
to_redo_only h d redone None None named is are = refl
to_redo_only h d redone None (Some b) named is are = absurd (none_some _ b (is b.number are.0) are.1)
to_redo_only h d redone (Some a) None named is are = absurd (none_some _ a (are a.number is.0) is.1)
to_redo_only h d redone (Some a) (Some b) named is are = elim (cases_lt a.number b.number) [
  | inl below ↦ absurd (none_some _ a (are.2 a.number is.0 below) is.1)
  | inr not_below ↦ elim (cases_lt b.number a.number) [
    | inl below ↦ absurd (none_some _ b (is.2 b.number are.0 below) are.1)
    | inr not_above ↦
        let same : a.number ≡ b.number = omega (arith, not_below, not_above) in
        sym is.1 ∙ ap (done_at h d) same ∙ are.1
  ]
]

-- ---- what is under redo

pub record IsRedo (h : List Event) (sites : List Site) (d : ℕ) (a : Answered) : Type 0 where
  pub answered_so : answered h a.number ≡ Some a
  pub done : is_done_at d a ≡ true
  pub r : Redoing
  pub down : (site_at sites d).redo ≡ Some r
  pub next : to_redo h d r.redone ≡ Some a

pub redo_is : (ps : List Checked) (h : List Event) → Legal ps h → (sites : List Site) (d : ℕ) (a : Answered)
    → under_redo h sites d ≡ Some a → IsRedo h sites d a
redo_is ps h legal sites d a is = by (site_at sites d).redo refl is
  where
    by : (r : Option Redoing) → (site_at sites d).redo ≡ r → to_redo_by h d r ≡ Some a → IsRedo h sites d a
    by None down next = absurd cc
    by (Some r) down next =
        let least = subst (IsToRedo h d r.redone) next (to_redo_is ps h legal d r.redone) in
        let it = done_is d (answered h a.number) a least.1 in
        record { answered_so = it.0; done = it.1; r = r; down = down; next = next }

at_dc : (d : ℕ) (a : Answered) → is_done_at d a ≡ true → (target a.op).dc ≡ d
at_dc d a is = by (is_done a.said) ((target a.op).dc == d) refl is
  where
    by : (x y : Bool) → ((target a.op).dc == d) ≡ y → (x && y) ≡ true → (target a.op).dc ≡ d
    by true true e both = eqb-true _ d e
    by true false e both = absurd cc
    by false y e both = absurd cc

pub redo_dc : (ps : List Checked) (h : List Event) → Legal ps h → (sites : List Site) (d : ℕ) (a : Answered)
    → under_redo h sites d ≡ Some a → (target a.op).dc ≡ d
redo_dc ps h legal sites d a is = at_dc d a (redo_is ps h legal sites d a is).done

-- ---- covered

-- the locks of the call with which its transaction was admitted allow the operation
record IsCovered (ps : List Checked) (h : List Event) (t : ℕ) (o : Op) : Type 0 where
  call : Call
  is : call_of h t ≡ Some call
  allowed : allows (locks_of (decls ps) call (target o)) (is_read o) ≡ true

open_called : (h : List Event) (t : ℕ) (c : Call) → open_call h t ≡ Some c → call_of h t ≡ Some c
open_called [] t c is = absurd cc
open_called (Admit u p args ∷ h) t c is = by (u == t) (open_called h t c) is
  where
    by : (b : Bool) → (open_call h t ≡ Some c → call_of h t ≡ Some c)
        → cond b (Some (record { proc = p; args = args })) (open_call h t) ≡ Some c → cond b (Some (record { proc = p; args = args })) (call_of h t) ≡ Some c
    by true ih e = e
    by false ih e = ih e
open_called (End u o ∷ h) t c is = by (u == t) (open_called h t c) is
  where
    by : (b : Bool) → (open_call h t ≡ Some c → call_of h t ≡ Some c) → cond b None (open_call h t) ≡ Some c → call_of h t ≡ Some c
    by true ih e = absurd cc
    by false ih e = ih e
open_called (_ ∷ h) t c is = open_called h t c is

-- transactions are numbered as they are admitted
called_early : (ps : List Checked) (h : List Event) → Legal ps h → (t : ℕ) (c : Call) → call_of h t ≡ Some c → t ≤ admitted h
called_early ps [] legal t c is = absurd cc
called_early ps (Admit u p args ∷ h) legal t c is = elim (cases_eq u t) [
  | inl same ↦ (let next = legal.0.next in omega (arith, next, same))
  | inr differ ↦ (let early = called_early ps h legal.1 t c (sym (cond-false _ _ _ (eq-false u t differ)) ∙ is) in omega (arith, early))
]
called_early ps (Checkpoint before numbers ∷ h) legal t c is = absurd (none_some _ c (ap (λ (x : List Event). call_of x t) legal.0.oldest) is)
called_early ps (_ ∷ h) legal t c is = called_early ps h legal.1 t c is

covered_flight : (ps : List Checked) (h : List Event) → AllGood ps → Legal ps h → (n : ℕ) (f : Flight) → open_op h n ≡ Some f → IsCovered ps h f.txn f.op
covered_flight ps h good legal n f is = by (open_call h f.txn) refl (flight_covered ps h good legal n f is)
  where
    by : (c : Option Call) → open_call h f.txn ≡ c → allows (held_for (decls ps) c (target f.op)) (is_read f.op) ≡ true → IsCovered ps h f.txn f.op
    by None e allowed = absurd cc
    by (Some c) e allowed = record { call = c; is = open_called h f.txn c e; allowed = allowed }

covered_answer : (ps : List Checked) (h : List Event) → AllGood ps → Legal ps h → (n : ℕ) (a : Answered) → answered h n ≡ Some a → IsCovered ps h a.txn a.op
covered_answer ps [] good legal n a is = absurd cc
covered_answer ps (Admit u p args ∷ h) good legal n a is =
    let c = covered_answer ps h good legal.1 n a is in
    let next = legal.0.next in
    let early = called_early ps h legal.1 a.txn c.call c.is in
    let other : u ≢ a.txn = omega (arith, next, early) in
    record { call = c.call; is = cond-false _ _ _ (eq-false u a.txn other) ∙ c.is; allowed = c.allowed }
covered_answer ps (Answer u m said ∷ h) good legal n a is = elim (cases_eq m n) [
  | inl same ↦
      let it = answers_to (open_op h n) n said a (sym (cond-true _ _ _ (eq-true m n same)) ∙ is) in
      let c = covered_flight ps h good legal.1 n it.flight it.is in
      record {
        call = c.call;
        is = ap (call_of h) it.txn ∙ c.is;
        allowed = subst (λ (o : Op). allows (locks_of (decls ps) c.call (target o)) (is_read o) ≡ true) (sym it.op) c.allowed;
      }
  | inr differ ↦
      let c = covered_answer ps h good legal.1 n a (sym (cond-false _ _ _ (eq-false m n differ)) ∙ is) in
      record { call = c.call; is = c.is; allowed = c.allowed }
]
covered_answer ps (_ ∷ h) good legal n a is =
    (let c = covered_answer ps h good legal.1 n a is in record { call = c.call; is = c.is; allowed = c.allowed })

allowed_by : (ps : List Checked) (h : List Event) (t : ℕ) (o : Op) → IsCovered ps h t o
    → allows (held_for (decls ps) (call_of h t) (target o)) (is_read o) ≡ true
allowed_by ps h t o c = rw c.is c.allowed

pub in_flight_covered : (ps : List Checked) (h : List Event) (sites : List Site) → AllGood ps → Legal ps h → (n : ℕ) (f : Flight) → InFlight h sites n f
    → allows (held_for (decls ps) (call_of h f.txn) (target f.op)) (is_read f.op) ≡ true
in_flight_covered ps h sites good legal n f (Open s) = allowed_by ps h f.txn f.op (covered_flight ps h good legal n f s.is_open)
in_flight_covered ps h sites good legal n f (Again r) =
    let it = redo_is ps h legal sites (target f.op).dc r.a r.redo in
    let mine = allowed_by ps h r.a.txn r.a.op (covered_answer ps h good legal r.a.number r.a it.answered_so) in
    subst (λ (o : Op). allows (held_for (decls ps) (call_of h f.txn) (target o)) (is_read o) ≡ true) r.op
    (subst (λ (t : ℕ). allows (held_for (decls ps) (call_of h t) (target r.a.op)) (is_read r.a.op) ≡ true) r.txn mine)

-- ---- apart

-- of a data component that is down nothing else is in flight
apart_from_redo : (h : List Event) (sites : List Site) (m n : ℕ) (f g : Flight) → target f.op ≡ target g.op
    → IsOpenAtSite h sites m f → IsUnderRedo h sites n g → ⊥
apart_from_redo h sites m n f g same s r =
    let up : (site_at sites (target g.op).dc).redo ≡ None = ap (λ (x : Record). (site_at sites x.dc).redo) (sym same) ∙ s.up in
    none_some _ r.a (ap (to_redo_by h (target g.op).dc) up) r.redo

one_redo : (h : List Event) (sites : List Site) (m n : ℕ) (f g : Flight) → target f.op ≡ target g.op
    → IsUnderRedo h sites m f → IsUnderRedo h sites n g → m ≡ n
one_redo h sites m n f g same r q =
    let it : r.a ≡ q.a = some_same r.a q.a (sym r.redo ∙ ap (λ (x : Record). under_redo h sites x.dc) same ∙ q.redo) in
    sym r.number ∙ ap (λ (x : Answered). x.number) it ∙ q.number

pub in_flight_apart : (ps : List Checked) (h : List Event) (sites : List Site) → AllGood ps → Legal ps h → (m n : ℕ) (f g : Flight)
    → InFlight h sites m f → InFlight h sites n g → m ≢ n → conflict f.op g.op ≡ false
in_flight_apart ps h sites good legal m n f g (Open s) (Open q) differ = flights_apart ps h good legal m n f g s.is_open q.is_open differ
in_flight_apart ps h sites good legal m n f g (Open s) (Again r) differ = by (record_eq (target f.op) (target g.op)) refl
  where
    by : (b : Bool) → record_eq (target f.op) (target g.op) ≡ b → (b && not (is_read f.op && is_read g.op)) ≡ false
    by false e = refl
    by true e = absurd (apart_from_redo h sites m n f g (eq_is (target f.op) (target g.op) e) s r)
in_flight_apart ps h sites good legal m n f g (Again r) (Open s) differ = by (record_eq (target f.op) (target g.op)) refl
  where
    by : (b : Bool) → record_eq (target f.op) (target g.op) ≡ b → (b && not (is_read f.op && is_read g.op)) ≡ false
    by false e = refl
    by true e = absurd (apart_from_redo h sites n m g f (sym (eq_is (target f.op) (target g.op) e)) s r)
in_flight_apart ps h sites good legal m n f g (Again r) (Again q) differ = by (record_eq (target f.op) (target g.op)) refl
  where
    by : (b : Bool) → record_eq (target f.op) (target g.op) ≡ b → (b && not (is_read f.op && is_read g.op)) ≡ false
    by false e = refl
    by true e = absurd (differ (one_redo h sites m n f g (eq_is (target f.op) (target g.op) e) r q))
