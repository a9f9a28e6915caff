-- Behind a log that begins anew all is said as behind the long one.
use Rattle.std.proofs.Common.{◌≡◌, ℕ, zero, suc, ◌+◌, ◌-◌, ◌<◌, ◌≤◌, ◌^◌, Bool, true, false, not, ◌&&◌, ◌||◌, List, [], ◌∷◌, ◌++◌, Option, Some, None}
use Rattle.std.proofs.Common.{arith, refl, sym, ◌∙◌, ap, ap₂, ◌==◌}
use Rattle.std.specs.Prelude.{if◌then◌else◌}
use Rattle.std.proofs.lemmas.Bool.{eq-eqb}
use Rattle.access_slots.specs.declared.slot.Record.{Record}
use Rattle.access_slots.specs.Declaration.{Declaration}
use Rattle.access_slots.specs.Held.{excludes, Compatible}
use Rattle.verifier.specs.Checked.{Checked}
use Rattle.tc_log.specs.declared.event.Event.{Event}
use Rattle.tc_log.specs.declared.event.Event.TheVariants.{Admit, Ask, Answer, Undo, End, Checkpoint}
use Rattle.request_numbers.specs.Given.{holds, others}
use Rattle.history.specs.Calls.{Call, admitted, txn_of, held, held_for, open_call, locks_of}
use Rattle.history.specs.Flight.{Flight, given, open_op, is_flight, open_numbers, mark_to, low_water}
use Rattle.history.specs.Redo.{answered, with_answer, if_done_at, or_else, first_done, to_redo}
use Rattle.history.specs.Anew.{anew}
use Rattle.history.specs.declared.Answered.{Answered}
use Rattle.history.proofs.Laws.{open_are_in_flight}
use Rattle.transactions.specs.Standing.{Standing, moved}
use Rattle.transactions.specs.Reached.{decls}
use Rattle.transactions.specs.Room.{weighed, total_to, total}
use Rattle.transactions.specs.Legal.{Legal, Allowed}
use Rattle.transactions.specs.Alike.{IsAtRest, AreAlike}
use Rattle.transactions.proofs.StandingLemmas.{none_some, standing-kept}
use Rattle.transactions.proofs.Headline.{no_call, awaited}
use Rattle.transactions.proofs.Restarts.{answered_given}

-- ---- where it begins

none_flies : (ps : List Checked) (h : List Event) → Legal ps h → IsAtRest h → (n : ℕ) → open_op h n ≡ None
none_flies ps h legal rest n = by (open_op h n) refl
  where
    by : (o : Option Flight) → open_op h n ≡ o → o ≡ None
    by None is = refl
    by (Some f) is = absurd (let a = awaited ps h legal n f is in none_some _ a.s (rest f.txn) a.is)

empty_by : (ns : List ℕ) → ((n : ℕ) → holds n ns ≡ false) → ns ≡ []
empty_by [] none = refl
empty_by (n ∷ ns) none = absurd (
    let bad : true ≡ false = sym (ap (λ (b : Bool). b || holds n ns) (eq-eqb n n refl)) ∙ none n in
    cc)

none_pending : (ps : List Checked) (h : List Event) → Legal ps h → IsAtRest h → open_numbers h ≡ []
none_pending ps h legal rest = empty_by (open_numbers h) (λ n. open_are_in_flight h n ∙ ap is_flight (none_flies ps h legal rest n))

none_late : (ps : List Checked) (h : List Event) → Legal ps h → (n : ℕ) → given h < n → answered h n ≡ None
none_late ps h legal n late = by (answered h n) refl
  where
    by : (o : Option Answered) → answered h n ≡ o → o ≡ None
    by None is = refl
    by (Some a) is = absurd (let few = answered_given ps h legal n a is in omega (arith, few, late))

pub begins_alike : (ps : List Checked) (h : List Event) → Legal ps h → IsAtRest h → AreAlike (given h) h (anew h)
begins_alike ps [] legal rest =
    record { admissions = refl; numbers = refl; standings = λ t. refl; calls = λ t. refl; flights = λ n. refl; pending = refl; answers = λ n late. refl }
begins_alike ps (e ∷ h) legal rest = record {
  admissions = refl;
  numbers = refl;
  standings = λ t. rest t ∙ sym (standing-kept (Checkpoint (admitted (e ∷ h)) (given (e ∷ h))) [] t (λ was. refl));
  calls = λ t. no_call ps (e ∷ h) t (rest t);
  flights = λ n. none_flies ps (e ∷ h) legal rest n;
  pending = none_pending ps (e ∷ h) legal rest;
  answers = λ n late. none_late ps (e ∷ h) legal n late;
}

pub turned : (from : ℕ) (h k : List Event) → AreAlike from h k → AreAlike from k h
turned from h k are = record {
  admissions = sym are.admissions;
  numbers = sym are.numbers;
  standings = λ t. sym (are.standings t);
  calls = λ t. sym (are.calls t);
  flights = λ n. sym (are.flights n);
  pending = sym are.pending;
  answers = λ n late. sym (are.answers n late);
}

-- ---- one event more

admissions_more : (e : Event) (h k : List Event) → admitted h ≡ admitted k → admitted (e ∷ h) ≡ admitted (e ∷ k)
admissions_more (Admit t p args) h k same = ap (λ (n : ℕ). n + 1) same
admissions_more (Checkpoint before numbers) h k same = refl
admissions_more _ h k same = same

numbers_more : (e : Event) (h k : List Event) → given h ≡ given k → given (e ∷ h) ≡ given (e ∷ k)
numbers_more (Ask t n o) h k same = ap (λ (i : ℕ). i + 1) same
numbers_more (Undo t n o) h k same = ap (λ (i : ℕ). i + 1) same
numbers_more (Checkpoint before numbers) h k same = refl
numbers_more _ h k same = same

calls_more : (e : Event) (h k : List Event) (t : ℕ) → open_call h t ≡ open_call k t → open_call (e ∷ h) t ≡ open_call (e ∷ k) t
calls_more (Admit u p args) h k t same = ap (λ (c : Option Call). if u == t then Some (record { proc = p; args = args }) else c) same
calls_more (End u o) h k t same = ap (λ (c : Option Call). if u == t then None else c) same
calls_more _ h k t same = same

flights_more : (e : Event) (h k : List Event) (m : ℕ) → open_op h m ≡ open_op k m → open_op (e ∷ h) m ≡ open_op (e ∷ k) m
flights_more (Ask t n o) h k m same = ap (λ (f : Option Flight). if n == m then Some (record { txn = t; op = o }) else f) same
flights_more (Answer t n said) h k m same = ap (λ (f : Option Flight). if n == m then None else f) same
flights_more (Undo t n o) h k m same = ap (λ (f : Option Flight). if n == m then Some (record { txn = t; op = o }) else f) same
flights_more _ h k m same = same

pending_more : (e : Event) (h k : List Event) → open_numbers h ≡ open_numbers k → open_numbers (e ∷ h) ≡ open_numbers (e ∷ k)
pending_more (Ask t n o) h k same = ap (λ (ns : List ℕ). ns ++ n ∷ []) same
pending_more (Answer t n said) h k same = ap (others n) same
pending_more (Undo t n o) h k same = ap (λ (ns : List ℕ). ns ++ n ∷ []) same
pending_more _ h k same = same

answers_more : (e : Event) (h k : List Event) (m : ℕ) → open_op h m ≡ open_op k m → answered h m ≡ answered k m → answered (e ∷ h) m ≡ answered (e ∷ k) m
answers_more (Answer t n said) h k m flies same =
    ap₂ (λ (f : Option Flight) (a : Option Answered). if n == m then with_answer m said f else a) flies same
answers_more _ h k m flies same = same

pub goes_on_alike : (from : ℕ) (e : Event) (h k : List Event) → AreAlike from h k → AreAlike from (e ∷ h) (e ∷ k)
goes_on_alike from e h k are = record {
  admissions = admissions_more e h k are.admissions;
  numbers = numbers_more e h k are.numbers;
  standings = λ t. ap (λ (s : Option Standing). if txn_of e == t then moved e s else s) (are.standings t);
  calls = λ t. calls_more e h k t (are.calls t);
  flights = λ n. flights_more e h k n (are.flights n);
  pending = pending_more e h k are.pending;
  answers = λ n late. answers_more e h k n (are.flights n) (are.answers n late);
}

pub alike : (from : ℕ) (later h k : List Event) → AreAlike from h k → AreAlike from (later ++ h) (later ++ k)
alike from [] h k are = are
alike from (e ∷ later) h k are = goes_on_alike from e (later ++ h) (later ++ k) (alike from later h k are)

-- ---- what may come next

abbrev pub is_checkpoint : Event → Bool
is_checkpoint (Checkpoint before numbers) = true
is_checkpoint _ = false

pub held_alike : (procs : List Declaration) (from : ℕ) (h k : List Event) → AreAlike from h k → (t : ℕ) (r : Record) → held procs h t r ≡ held procs k t r
held_alike procs from h k are t r = ap (λ (c : Option Call). held_for procs c r) (are.calls t)

pub allowed_alike : (ps : List Checked) (from : ℕ) (e : Event) (h k : List Event) → AreAlike from h k → is_checkpoint e ≡ false
    → Allowed ps h e → Allowed ps k e
allowed_alike ps from (Admit t p args) h k are later a =
    let same : t ≡ admitted k + 1 = a.next ∙ ap (λ (n : ℕ). n + 1) are.admissions in
    let free : Compatible (held (decls ps) k) (locks_of (decls ps) (record { proc = p; args = args })) = (λ r u.
    sym (ap (excludes (locks_of (decls ps) (record { proc = p; args = args }) r)) (held_alike (decls ps) from h k are u r)) ∙ a.free r u) in
    record { next = same; q = a.q; loaded = a.loaded; takes = a.takes; free = free }
allowed_alike ps from (Ask t n o) h k are later a =
    record {
      s = a.s;
      is = sym (are.standings t) ∙ a.is;
      idle = a.idle;
      not_full = a.not_full;
      asks = a.asks;
      next = a.next ∙ ap (λ (i : ℕ). i + 1) are.numbers;
    }
allowed_alike ps from (Answer t n said) h k are later a =
    record { s = a.s; is = sym (are.standings t) ∙ a.is; r = a.r; waits = a.waits; number = a.number; fit = a.fit }
allowed_alike ps from (Undo t n o) h k are later a =
    record {
      s = a.s;
      is = sym (are.standings t) ∙ a.is;
      idle = a.idle;
      stopped = a.stopped;
      top = a.top;
      few = a.few;
      next = a.next ∙ ap (λ (i : ℕ). i + 1) are.numbers;
    }
allowed_alike ps from (End t o) h k are later a = record { s = a.s; is = sym (are.standings t) ∙ a.is; idle = a.idle; ends = a.ends }
allowed_alike ps from (Checkpoint before numbers) h k are later a = absurd (cc)

some_left : (later h : List Event) (e : Event) → later ++ e ∷ h ≡ [] → ⊥
some_left [] h e is = cc
some_left (x ∷ later) h e is = cc

-- no log goes on with a checkpoint
begins_none : (ps : List Checked) (later h : List Event) (e x : Event) → Allowed ps (later ++ e ∷ h) x → is_checkpoint x ≡ false
begins_none ps later h e (Checkpoint before numbers) a = absurd (some_left later h e a.oldest)
begins_none ps later h e _ a = refl

-- both are legal with what follows, or neither is
pub legal_on : (ps : List Checked) (from : ℕ) (later h k : List Event) (e x : Event) → AreAlike from (e ∷ h) (x ∷ k) → Legal ps (x ∷ k)
    → Legal ps (later ++ e ∷ h) → Legal ps (later ++ x ∷ k)
legal_on ps from [] h k e x are base legal = base
legal_on ps from (y ∷ later) h k e x are base legal = (
  allowed_alike ps from y (later ++ e ∷ h) (later ++ x ∷ k) (alike from later (e ∷ h) (x ∷ k) are) (begins_none ps later h e y legal.0) legal.0,
  legal_on ps from later h k e x are base legal.1,
)

pub anew_legal : (ps : List Checked) (h : List Event) → admitted h ≤ 2 ^ 62 → given h ≤ 2 ^ 62 → Legal ps (anew h)
anew_legal ps [] few numbers = tt
anew_legal ps (e ∷ h) few numbers = (record { oldest = refl; few_admitted = few; few_given = numbers }, tt)

pub legal_anew : (ps : List Checked) (later h : List Event) → Legal ps h → IsAtRest h → admitted h ≤ 2 ^ 62 → given h ≤ 2 ^ 62
    → Legal ps (later ++ h) → Legal ps (later ++ anew h)
legal_anew ps later [] legal rest few numbers whole = whole
legal_anew ps later (e ∷ h) legal rest few numbers whole =
    legal_on ps (given (e ∷ h)) later h [] e (Checkpoint (admitted (e ∷ h)) (given (e ∷ h)))
    (begins_alike ps (e ∷ h) legal rest) (anew_legal ps (e ∷ h) few numbers) whole

pub legal_back : (ps : List Checked) (later h : List Event) → Legal ps h → IsAtRest h → Legal ps (later ++ anew h) → Legal ps (later ++ h)
legal_back ps later [] legal rest whole = whole
legal_back ps later (e ∷ h) legal rest whole =
    legal_on ps (given (e ∷ h)) later [] h (Checkpoint (admitted (e ∷ h)) (given (e ∷ h))) e
    (turned (given (e ∷ h)) (e ∷ h) (anew (e ∷ h)) (begins_alike ps (e ∷ h) legal rest)) legal whole

pub anew_alike : (ps : List Checked) (later h : List Event) → Legal ps h → IsAtRest h → AreAlike (given h) (later ++ h) (later ++ anew h)
anew_alike ps later h legal rest = alike (given h) later h (anew h) (begins_alike ps h legal rest)

-- ---- what both say

marks_alike : (from : ℕ) (h k : List Event) → AreAlike from h k → (n : ℕ) → mark_to h n ≡ mark_to k n
marks_alike from h k are zero = refl
marks_alike from h k are (suc n) =
    ap₂ (λ (m : ℕ) (f : Option Flight). if (m == n) && not (is_flight f) then suc n else m) (marks_alike from h k are n) (are.flights (suc n))

pub low_water_alike : (from : ℕ) (h k : List Event) → AreAlike from h k → low_water h ≡ low_water k
low_water_alike from h k are = marks_alike from h k are (given h) ∙ ap (mark_to k) are.numbers

totals_alike : (w : Standing → ℕ) (from : ℕ) (h k : List Event) → AreAlike from h k → (n : ℕ) → total_to w h n ≡ total_to w k n
totals_alike w from h k are zero = refl
totals_alike w from h k are (suc n) =
    ap₂ (λ (i : ℕ) (s : Option Standing). i + weighed w s) (totals_alike w from h k are n) (are.standings (suc n))

pub total_alike : (w : Standing → ℕ) (from : ℕ) (h k : List Event) → AreAlike from h k → total w h ≡ total w k
unfolding total
total_alike w from h k are = totals_alike w from h k are (admitted h) ∙ ap (total_to w k) are.admissions

first_alike : (from : ℕ) (h k : List Event) → AreAlike from h k → (d after many : ℕ) → from ≤ after → first_done h d after many ≡ first_done k d after many
first_alike from h k are d after zero low = refl
first_alike from h k are d after (suc more) low =
    ap₂ or_else (ap (if_done_at d) (are.answers (after + 1) (omega (arith, low)))) (first_alike from h k are d (after + 1) more (omega (arith, low)))

pub redo_alike : (from : ℕ) (h k : List Event) → AreAlike from h k → (d redone : ℕ) → from ≤ redone → to_redo h d redone ≡ to_redo k d redone
redo_alike from h k are d redone low =
    first_alike from h k are d redone (given h - redone) low ∙ ap (λ (n : ℕ). first_done k d redone (n - redone)) are.numbers
