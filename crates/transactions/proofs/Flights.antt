-- Operations in flight, and the transactions that wait for them.
use Rattle.std.proofs.Common.{◌≡◌, ◌≢◌, ℕ, ◌+◌, ◌≤◌, Bool, true, false, cond, List, [], ◌∷◌, Option, Some}
use Rattle.std.proofs.Common.{arith, refl, sym, ◌∙◌, ap, inl, inr, ◌==◌}
use Rattle.std.proofs.lemmas.Bool.{cases_eq, cond-true, cond-false}
use Rattle.access_slots.specs.declared.op.Op.{Op}
use Rattle.verifier.specs.Checked.{Checked}
use Rattle.tc_log.specs.declared.event.Event.{Event}
use Rattle.tc_log.specs.declared.event.Event.TheVariants.{Admit, Ask, Answer, Undo, End}
use Rattle.request_numbers.specs.Given.{holds}
use Rattle.history.specs.Flight.{Flight, given, open_op, is_flight, is_open, open_numbers}
use Rattle.history.proofs.Laws.{open_are_in_flight}
use Rattle.transactions.specs.declared.Sent.{Sent}
use Rattle.transactions.specs.Standing.{Standing, standing, moved, sent_as}
use Rattle.transactions.specs.Legal.{Legal}
use Rattle.transactions.proofs.LowWater.{given_grows}
use Rattle.transactions.proofs.StandingLemmas.{eq-true, eq-false, some_same, none_some, standing-same, standing-other, standing-kept}

abbrev pub flight : ℕ → Op → Flight
flight t o = record { txn = t; op = o }

pub flight_holds : (h : List Event) (n : ℕ) → is_open h n ≡ true → holds n (open_numbers h) ≡ true
flight_holds h n is = open_are_in_flight h n ∙ is

same_flight : (t u : ℕ) (o q : Op) → t ≡ u → o ≡ q → flight t o ≡ flight u q
same_flight t u o q e f = cc

-- what was sent just now is in flight
sent_now : (h : List Event) (u t m : ℕ) (o : Op) (b : Bool) (r : Sent) → u ≡ t → sent_as m o b ≡ Some r
    → m ≡ given h + 1
    → (r.number ≤ given h + 1) × ((if_flight : Option Flight) → cond (m == r.number) (Some (flight u o)) if_flight ≡ Some (flight t r.op))
sent_now h u t m o b r same e next =
    let it = some_same _ r e in
    let n : m ≡ r.number = ap (λ (x : Sent). x.number) it in
    let op' : o ≡ r.op = ap (λ (x : Sent). x.op) it in
    (omega (arith, next, n), λ before. cond-true _ _ _ (eq-true m r.number n) ∙ ap (λ (x : Flight). Some x) (same_flight u t o r.op same op'))

-- what a transaction waits for is in flight, under a number that was given
pub standing_flight : (ps : List Checked) (h : List Event) → Legal ps h → (t : ℕ) (s : Standing) (r : Sent) → standing h t ≡ Some s → s.sent ≡ Some r
    → (r.number ≤ given h) × (open_op h r.number ≡ Some (flight t r.op))
standing_flight ps [] legal t s r is waits = cc
standing_flight ps (Admit u p args ∷ h) legal t s r is waits =
    elim (cases_eq u t) [
      | inl same ↦ absurd (none_some _ r (ap (λ (x : Standing). x.sent) (sym (some_same _ s (sym (standing-same (Admit u p args) h t same) ∙ is)))) waits)
      | inr other ↦ standing_flight ps h legal.1 t s r (sym (standing-other (Admit u p args) h t other) ∙ is) waits
    ]
standing_flight ps (Ask u m o ∷ h) legal t s r is waits =
    let a = legal.0 in
    elim (cases_eq u t) [
      | inl same ↦
          let was : standing h t ≡ Some a.s = ap (standing h) (sym same) ∙ a.is in
          let e = some_same _ s (sym (standing-same (Ask u m o) h t same ∙ ap (moved (Ask u m o)) was) ∙ is) in
          let now = sent_now h u t m o false r same (ap (λ (x : Standing). x.sent) e ∙ waits) a.next in
          (now.0, now.1 (open_op h r.number))
      | inr other ↦
          let ih = standing_flight ps h legal.1 t s r (sym (standing-other (Ask u m o) h t other) ∙ is) waits in
          let differ : m ≢ r.number = omega (arith, a.next, ih.0) in
          (omega (arith, ih.0), cond-false _ _ _ (eq-false m r.number differ) ∙ ih.1)
    ]
standing_flight ps (Undo u m o ∷ h) legal t s r is waits =
    let a = legal.0 in
    elim (cases_eq u t) [
      | inl same ↦
          let was : standing h t ≡ Some a.s = ap (standing h) (sym same) ∙ a.is in
          let e = some_same _ s (sym (standing-same (Undo u m o) h t same ∙ ap (moved (Undo u m o)) was) ∙ is) in
          let now = sent_now h u t m o true r same (ap (λ (x : Standing). x.sent) e ∙ waits) a.next in
          (now.0, now.1 (open_op h r.number))
      | inr other ↦
          let ih = standing_flight ps h legal.1 t s r (sym (standing-other (Undo u m o) h t other) ∙ is) waits in
          let differ : m ≢ r.number = omega (arith, a.next, ih.0) in
          (omega (arith, ih.0), cond-false _ _ _ (eq-false m r.number differ) ∙ ih.1)
    ]
standing_flight ps (Answer u m said ∷ h) legal t s r is waits =
    let a = legal.0 in
    elim (cases_eq u t) [
      | inl same ↦ absurd (
          let was : standing h t ≡ Some a.s = ap (standing h) (sym same) ∙ a.is in
          let e = some_same _ s (sym (standing-same (Answer u m said) h t same ∙ ap (moved (Answer u m said)) was) ∙ is) in
          none_some s.sent r (sym (ap (λ (x : Standing). x.sent) e)) waits)
      | inr other ↦
          let ih = standing_flight ps h legal.1 t s r (sym (standing-other (Answer u m said) h t other) ∙ is) waits in
          let mine = standing_flight ps h legal.1 u a.s a.r a.is a.waits in
          let differ : m ≢ r.number = (λ same.
          let g : Some (flight u a.r.op) ≡ Some (flight t r.op) = sym mine.1 ∙ (ap (open_op h) (a.number ∙ same) ∙ ih.1) in
          other (ap (λ (x : Flight). x.txn) (some_same (flight u a.r.op) (flight t r.op) g))) in
          (ih.0, cond-false _ _ _ (eq-false m r.number differ) ∙ ih.1)
    ]
standing_flight ps (End u outcome ∷ h) legal t s r is waits =
    elim (cases_eq u t) [
      | inl same ↦ absurd (none_some _ s (standing-same (End u outcome) h t same) is)
      | inr other ↦ standing_flight ps h legal.1 t s r (sym (standing-other (End u outcome) h t other) ∙ is) waits
    ]
standing_flight ps (e ∷ h) legal t s r is waits =
    let ih = standing_flight ps h legal.1 t s r (sym (standing-kept e h t (λ was. refl)) ∙ is) waits in
    let more = given_grows ps h e legal.0 in
    (omega (arith, ih.0, more), ih.1)

pub open_flight : (ps : List Checked) (h : List Event) → Legal ps h → (t : ℕ) (s : Standing) (r : Sent) (n : ℕ)
    → standing h t ≡ Some s → s.sent ≡ Some r → r.number ≡ n → is_open h n ≡ true
open_flight ps h legal t s r n is waits same = ap (is_open h) (sym same) ∙ ap is_flight (standing_flight ps h legal t s r is waits).1
