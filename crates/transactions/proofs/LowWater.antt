-- The low-water mark as a log goes on.
use Rattle.std.proofs.Common.{◌≡◌, ◌≢◌, ℕ, ◌<◌, ◌≤◌, true, false, cond, List, [], ◌∷◌, ◌++◌, Option, Some, None}
use Rattle.std.proofs.Common.{arith, sym, ◌∙◌, ap, inl, inr, ◌==◌}
use Rattle.std.proofs.lemmas.Bool.{cases_eq, cond-true, cond-false, cases_lt}
use Rattle.verifier.specs.Checked.{Checked}
use Rattle.tc_log.specs.declared.event.Event.{Event}
use Rattle.tc_log.specs.declared.event.Event.TheVariants.{Ask, Answer, Undo, Checkpoint}
use Rattle.history.specs.Flight.{Flight, given, open_op, is_flight, AllAnswered, low_water}
use Rattle.history.proofs.Laws.{computed_is}
use Rattle.transactions.specs.Legal.{Legal, Allowed}
use Rattle.transactions.proofs.StandingLemmas.{eq-true, eq-false, none_some}

-- a new number is above all that were given
above : (n m : ℕ) (o : Option Flight) (f : Flight) → n ≢ m → is_flight o ≡ false → is_flight (cond (n == m) (Some f) o) ≡ false
above n m o f other closed = ap is_flight (cond-false _ (Some f) o (eq-false n m other)) ∙ closed

closed_still : (n m : ℕ) (o : Option Flight) → is_flight o ≡ false → is_flight (cond (n == m) None o) ≡ false
closed_still n m o closed = elim (cases_eq n m) [
  | inl same ↦ ap is_flight (cond-true _ None o (eq-true n m same))
  | inr other ↦ ap is_flight (cond-false _ None o (eq-false n m other)) ∙ closed
]

-- no event takes back a number that was given out
pub given_grows : (ps : List Checked) (h : List Event) (e : Event) → Allowed ps h e → given h ≤ given (e ∷ h)
given_grows ps h (Checkpoint before numbers) a = (let none : given h ≡ 0 = ap given a.oldest in omega (arith, none))
given_grows ps h _ a = omega arith

pub given_more : (ps : List Checked) (later h : List Event) → Legal ps (later ++ h) → given h ≤ given (later ++ h)
given_more ps [] h legal = omega arith
given_more ps (e ∷ later) h legal =
    let before = given_more ps later h legal.1 in
    let more = given_grows ps (later ++ h) e legal.0 in
    omega (arith, before, more)

-- numbers that were answered stay answered
pub answered_stay : (ps : List Checked) (h : List Event) (e : Event) (n : ℕ) → Allowed ps h e → AllAnswered h n → AllAnswered (e ∷ h) n
answered_stay ps h (Ask t m o) n a all = (let few = all.given_out in let next = a.next in record {
  given_out = omega (arith, few);
  answered = λ k some most. above m k (open_op h k) (record { txn = t; op = o }) (omega (arith, few, next, most)) (all.answered k some most);
})
answered_stay ps h (Answer t m said) n a all = record {
  given_out = all.given_out;
  answered = λ k some most. closed_still m k (open_op h k) (all.answered k some most);
}
answered_stay ps h (Undo t m o) n a all = (let few = all.given_out in let next = a.next in record {
  given_out = omega (arith, few);
  answered = λ k some most. above m k (open_op h k) (record { txn = t; op = o }) (omega (arith, few, next, most)) (all.answered k some most);
})
answered_stay ps h e n a all =
    let few = all.given_out in
    let more = given_grows ps h e a in
    record { given_out = omega (arith, few, more); answered = all.answered }

-- the mark never falls
pub mark_rises : (ps : List Checked) (h : List Event) (e : Event) → Allowed ps h e → low_water h ≤ low_water (e ∷ h)
mark_rises ps h e a = (computed_is (e ∷ h)).greatest (low_water h) (answered_stay ps h e (low_water h) a (computed_is h).all)

-- what is in flight has a number from 1 on
pub flight_some : (ps : List Checked) (h : List Event) → Legal ps h → (n : ℕ) (f : Flight) → open_op h n ≡ Some f → 0 < n
flight_some ps [] legal n f is = absurd cc
flight_some ps (Ask u m o ∷ h) legal n f is = elim (cases_eq m n) [
  | inl same ↦ (let next = legal.0.next in omega (arith, next, same))
  | inr differ ↦ flight_some ps h legal.1 n f (sym (cond-false _ _ _ (eq-false m n differ)) ∙ is)
]
flight_some ps (Undo u m o ∷ h) legal n f is = elim (cases_eq m n) [
  | inl same ↦ (let next = legal.0.next in omega (arith, next, same))
  | inr differ ↦ flight_some ps h legal.1 n f (sym (cond-false _ _ _ (eq-false m n differ)) ∙ is)
]
flight_some ps (Answer u m said ∷ h) legal n f is = elim (cases_eq m n) [
  | inl same ↦ absurd (none_some _ f (cond-true _ None (open_op h n) (eq-true m n same)) is)
  | inr differ ↦ flight_some ps h legal.1 n f (sym (cond-false _ None (open_op h n) (eq-false m n differ)) ∙ is)
]
flight_some ps (_ ∷ h) legal n f is = flight_some ps h legal.1 n f is

-- and lies above the mark
pub flight_above : (ps : List Checked) (h : List Event) → Legal ps h → (n : ℕ) (f : Flight) → open_op h n ≡ Some f → low_water h < n
flight_above ps h legal n f is = elim (cases_lt (low_water h) n) [
  | inl above_it ↦ above_it
  | inr under ↦
      let never : false ≡ true = sym ((computed_is h).all.answered n (flight_some ps h legal n f is) (omega (arith, under))) ∙ ap is_flight is in
      absurd (cc)
]
