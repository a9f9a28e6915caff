-- What follows for every history.
use Rattle.std.proofs.Common.{arith, ◌≡◌, ℕ, zero, suc, ◌<◌, ◌≤◌, not, Bool, true, false, if◌then◌else◌, ◌&&◌, ◌||◌}
use Rattle.std.proofs.Common.{List, [], ◌∷◌, ◌++◌, sym, refl, ap, subst, ◌∙◌}
use Rattle.std.specs.Prelude.{Option, Some, None, ◌==◌}
use Rattle.std.proofs.lemmas.Bool.{cond-true, cond-false, eqb-true, eq-eqb}
use Rattle.std.proofs.lemmas.Bool.Decides.{nat_tests}
use Rattle.tc_log.specs.declared.event.Event.{Event}
use Rattle.tc_log.specs.declared.event.Event.TheVariants.{Ask, Answer, Undo}
use Rattle.request_numbers.specs.Given.{holds, others}
use Rattle.request_numbers.specs.LowWater as mark
use Rattle.history.specs.Flight.{Flight, given, open_op, is_flight, is_open, open_numbers, mark_to, low_water, AllAnswered, IsLowWater}

-- ---- open numbers

or_false : (b : Bool) → (b || false) ≡ b
or_false true = refl
or_false false = refl

holds_last : (m n : ℕ) (ns : List ℕ) → holds m (ns ++ n ∷ []) ≡ (holds m ns || (n == m))
holds_last m n [] = or_false (n == m)
holds_last m n (k ∷ ns) = ap (λ (b : Bool). (k == m) || b) (holds_last m n ns) ∙ assoc (k == m) (holds m ns) (n == m)
  where
    assoc : (x y z : Bool) → (x || (y || z)) ≡ ((x || y) || z)
    assoc true y z = refl
    assoc false y z = refl

asked : (b : Bool) (m n : ℕ) (ns : List ℕ) (f : Flight) (o : Option Flight) → (n == m) ≡ b → holds m ns ≡ is_flight o
    → holds m (ns ++ n ∷ []) ≡ is_flight (if n == m then Some f else o)
asked true m n ns f o is was = holds_last m n ns ∙ ap (λ (b : Bool). holds m ns || b) is ∙ or_true (holds m ns) ∙ sym (ap is_flight (cond-true _ _ _ is))
  where
    or_true : (b : Bool) → (b || true) ≡ true
    or_true true = refl
    or_true false = refl
asked false m n ns f o is was = holds_last m n ns ∙ ap (λ (b : Bool). holds m ns || b) is ∙ or_false (holds m ns) ∙ was ∙ sym (ap is_flight (cond-false _ _ _ is))

kept : (x : Bool) (m n k : ℕ) (ns rest : List ℕ) → (k == n) ≡ x → (n == m) ≡ false → holds m rest ≡ holds m ns
    → holds m (if not x then k ∷ rest else rest) ≡ holds m (k ∷ ns)
kept false m n k ns rest own apart was = ap (λ (b : Bool). (k == m) || b) was
kept true m n k ns rest own apart was = was ∙ sym (ap (λ (b : Bool). b || holds m ns) (subst (λ (i : ℕ). (i == m) ≡ false) (sym (eqb-true k n own)) apart))

holds_others : (m n : ℕ) (ns : List ℕ) → (n == m) ≡ false → holds m (others n ns) ≡ holds m ns
holds_others m n [] apart = refl
holds_others m n (k ∷ ns) apart = kept (k == n) m n k ns (others n ns) refl apart (holds_others m n ns apart)

gone : (x : Bool) (n k : ℕ) (rest : List ℕ) → (k == n) ≡ x → holds n rest ≡ false → holds n (if not x then k ∷ rest else rest) ≡ false
gone false n k rest own was = ap (λ (b : Bool). b || holds n rest) own ∙ was
gone true n k rest own was = was

holds_itself : (n : ℕ) (ns : List ℕ) → holds n (others n ns) ≡ false
holds_itself n [] = refl
holds_itself n (k ∷ ns) = gone (k == n) n k (others n ns) refl (holds_itself n ns)

answered : (b : Bool) (m n : ℕ) (ns : List ℕ) (o : Option Flight) → (n == m) ≡ b → holds m ns ≡ is_flight o
    → holds m (others n ns) ≡ is_flight (if n == m then None else o)
answered true m n ns o is was = subst (λ (k : ℕ). holds k (others n ns) ≡ false) (eqb-true n m is) (holds_itself n ns) ∙ sym (ap is_flight (cond-true _ _ _ is))
answered false m n ns o is was = holds_others m n ns is ∙ was ∙ sym (ap is_flight (cond-false _ _ _ is))

pub open_are_in_flight : (h : List Event) (n : ℕ) → holds n (open_numbers h) ≡ is_open h n
open_are_in_flight [] n = refl
open_are_in_flight (Ask t m o ∷ h) n = asked (m == n) n m (open_numbers h) (record { txn = t; op = o }) (open_op h n) refl (open_are_in_flight h n)
open_are_in_flight (Answer t m said ∷ h) n = answered (m == n) n m (open_numbers h) (open_op h n) refl (open_are_in_flight h n)
open_are_in_flight (Undo t m o ∷ h) n = asked (m == n) n m (open_numbers h) (record { txn = t; op = o }) (open_op h n) refl (open_are_in_flight h n)
open_are_in_flight (_ ∷ h) n = open_are_in_flight h n

-- ---- the low-water mark

all_kept : (h : List Event) (n : ℕ) → AllAnswered h n → mark.AllAnswered (given h) (open_numbers h) n
all_kept h n all = record { given = all.given_out; answered = λ m some few. open_are_in_flight h m ∙ all.answered m some few }

pub mark_is_low_water : (h : List Event) (n : ℕ) → mark.IsLowWater (given h) (open_numbers h) n → IsLowWater h n
mark_is_low_water h n is = record {
  all = record { given_out = is.all.given; answered = λ m some few. sym (open_are_in_flight h m) ∙ is.all.answered m some few };
  greatest = λ m all. is.greatest m (all_kept h m all);
}

-- up to n, the computed mark is the greatest number up to which none is open
record IsMarkTo (h : List Event) (n mark : ℕ) : Type 0 where
  few : mark ≤ n
  answered : (m : ℕ) → 0 < m → m ≤ mark → is_open h m ≡ false
  greatest : (k : ℕ) → k ≤ n → ((m : ℕ) → 0 < m → m ≤ k → is_open h m ≡ false) → k ≤ mark

mark_is : (h : List Event) (n : ℕ) → IsMarkTo h n (mark_to h n)
mark_is h zero = record { few = omega arith; answered = λ m some none. absurd (omega (arith, some, none)); greatest = λ k few all. few }
mark_is h (suc n) = by_test (mark_to h n == n) (is_open h (suc n)) refl refl (mark_is h n)
  where
    by_test : (x y : Bool) → (mark_to h n == n) ≡ x → is_open h (suc n) ≡ y → IsMarkTo h n (mark_to h n)
        → IsMarkTo h (suc n) (if x && not y then suc n else mark_to h n)
    by_test true false is free was =
        let whole = eqb-true (mark_to h n) n is in
        record {
          few = omega arith;
          answered = λ m some few. up_to (m == suc n) m refl some few whole;
          greatest = λ k few all. few;
        }
      where
        up_to : (b : Bool) (m : ℕ) → (m == suc n) ≡ b → 0 < m → m ≤ suc n → mark_to h n ≡ n → is_open h m ≡ false
        up_to true m last some few whole = subst (λ (i : ℕ). is_open h i ≡ false) (sym (eqb-true m (suc n) last)) free
        up_to false m last some few whole = was.answered m some (grind (arith, nat_tests))
    by_test true true is free was = record {
      few = omega (arith, was.few);
      answered = was.answered;
      greatest = λ k few all. below (k == suc n) k refl few all;
    }
      where
        below : (b : Bool) (k : ℕ) → (k == suc n) ≡ b → k ≤ suc n → ((m : ℕ) → 0 < m → m ≤ k → is_open h m ≡ false) → k ≤ mark_to h n
        below true k last few all = absurd (
            let same = eqb-true k (suc n) last in
            let none : is_open h (suc n) ≡ false = all (suc n) (omega arith) (omega (arith, same)) in
            let bad : true ≡ false = sym free ∙ none in
            cc)
        below false k last few all = was.greatest k (grind (arith, nat_tests)) all
    by_test false y is free was = record {
      few = omega (arith, was.few);
      answered = was.answered;
      greatest = λ k few all. below (k == suc n) k refl few all;
    }
      where
        below : (b : Bool) (k : ℕ) → (k == suc n) ≡ b → k ≤ suc n → ((m : ℕ) → 0 < m → m ≤ k → is_open h m ≡ false) → k ≤ mark_to h n
        below true k last few all = absurd (
            let same = eqb-true k (suc n) last in
            let whole = was.greatest n (omega arith) (λ m some under. all m some (omega (arith, under, same))) in
            let bad : true ≡ false = sym (eq-eqb (mark_to h n) n (omega (arith, whole, was.few))) ∙ is in
            cc)
        below false k last few all = was.greatest k (grind (arith, nat_tests)) all

pub computed_is : (h : List Event) → IsLowWater h (low_water h)
computed_is h =
    let mine = mark_is h (given h) in
    record {
      all = record { given_out = mine.few; answered = mine.answered };
      greatest = λ m all. mine.greatest m all.given_out all.answered;
    }

pub low_water_is : (h : List Event) (n : ℕ) → IsLowWater h n → n ≡ low_water h
low_water_is h n is =
    let mine = mark_is h (given h) in
    let up : n ≤ low_water h = mine.greatest n is.all.given_out is.all.answered in
    let down : low_water h ≤ n = is.greatest (low_water h) (record { given_out = mine.few; answered = mine.answered }) in
    omega (arith, up, down)
