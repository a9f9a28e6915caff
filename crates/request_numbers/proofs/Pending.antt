-- Lists of open numbers.
use Rattle.std.proofs.Common.{arith, ◌≡◌, ℕ, ◌+◌, ◌<◌, ◌≤◌, Bool, true, false, not, cond, ◌||◌, ◌==◌, List}
use Rattle.std.proofs.Common.{[], ◌∷◌, ◌++◌, length, sym, refl, ap, ◌∙◌, inl, inr}
use Rattle.std.proofs.lemmas.Bool.{cases_eq, cases_lt, cond-true, cond-false, false≢true, eq-eqb, ne_eqb}
use Rattle.request_numbers.specs.Given.{others, holds, Rising, low_water_of}
use Rattle.request_numbers.specs.LowWater.{IsLowWater}

rising_le : (low last : ℕ) (ns : List ℕ) → Rising low last ns → low ≤ last
rising_le low last [] h = h
rising_le low last (n ∷ ns) h = omega (arith, h.0, rising_le n last ns h.1)

-- a smaller bound
pub rising_from : (low from last : ℕ) (ns : List ℕ) → from ≤ low → Rising low last ns → Rising from last ns
rising_from low from last [] le h = omega (arith, le, h)
rising_from low from last (n ∷ ns) le h = (omega (arith, le, h.0), h.1)

pub rising_more : (low last : ℕ) (ns : List ℕ) → Rising low last ns → Rising low (last + 1) (ns ++ (last + 1) ∷ [])
rising_more low last [] h = (omega (arith, h), omega arith)
rising_more low last (n ∷ ns) h = (h.0, rising_more n last ns h.1)

-- the number is none of those above it
pub not_above : (k low last : ℕ) (ns : List ℕ) → k ≤ low → Rising low last ns → holds k ns ≡ false
not_above k low last [] le h = refl
not_above k low last (n ∷ ns) le h =
    ap (λ (b : Bool). b || holds k ns) (ne_eqb n k (λ same. absurd (omega (arith, same, le, h.0))))
    ∙ not_above k n last ns (omega (arith, le, h.0)) h.1

-- and taking it out changes nothing
pub others_above : (k low last : ℕ) (ns : List ℕ) → k ≤ low → Rising low last ns → others k ns ≡ ns
others_above k low last [] le h = refl
others_above k low last (n ∷ ns) le h =
    cond-true _ _ _ (ap not (ne_eqb n k (λ same. absurd (omega (arith, same, le, h.0)))))
    ∙ ap (λ (ms : List ℕ). n ∷ ms) (others_above k n last ns (omega (arith, le, h.0)) h.1)

kept_or_not : (b : Bool) (low n last : ℕ) (rest : List ℕ) → low < n → Rising n last rest → Rising low last (cond b (n ∷ rest) rest)
kept_or_not true low n last rest lt h = (lt, h)
kept_or_not false low n last rest lt h = rising_from n low last rest (omega (arith, lt)) h

pub others_rising : (k low last : ℕ) (ns : List ℕ) → Rising low last ns → Rising low last (others k ns)
others_rising k low last [] h = h
others_rising k low last (n ∷ ns) h = kept_or_not (not (n == k)) low n last (others k ns) h.0 (others_rising k n last ns h.1)

or_false : (a b : Bool) → a ≡ false → (a || b) ≡ true → b ≡ true
or_false true b e h = absurd (false≢true (sym e))
or_false false b e h = h

-- taking an open number out makes the list shorter by one
pub one_less : (k low last : ℕ) (ns : List ℕ) → Rising low last ns → holds k ns ≡ true → length (others k ns) + 1 ≡ length ns
one_less k low last [] h is = absurd (false≢true is)
one_less k low last (n ∷ ns) h is =
    elim (cases_eq n k) [
      | inl same ↦ (let gone : others k (n ∷ ns) ≡ ns = cond-false _ _ _ (ap not (eq-eqb n k same)) ∙ others_above k n last ns (omega (arith, same)) h.1 in omega (arith, ap length gone))
      | inr differ ↦
          let kept : others k (n ∷ ns) ≡ n ∷ others k ns = cond-true _ _ _ (ap not (ne_eqb n k differ)) in
          let fewer = one_less k n last ns h.1 (or_false (n == k) (holds k ns) (ne_eqb n k differ) is) in
          omega (arith, ap length kept, fewer)
    ]

pub low_water_is : (last : ℕ) (ns : List ℕ) → Rising 0 last ns → IsLowWater last ns (low_water_of last ns)
low_water_is last [] h = record { all = record { given = omega arith; answered = λ m above within. refl }; greatest = λ m a. a.given }
low_water_is last (n ∷ ns) h = record {
  all = record {
    given = omega (arith, rising_le n last ns h.1);
    answered = λ m above within. not_above m m last (n ∷ ns) (omega arith) (omega (arith, within, h.0), h.1);
  };
  greatest = λ m a. elim (cases_lt m n) [
    | inl less ↦ omega (arith, less)
    | inr more ↦ absurd (false≢true (sym (a.answered n h.0 more) ∙ ap (λ (b : Bool). b || holds n ns) (eq-eqb n n refl)))
  ];
}
