-- The first slot at which something is wrong.
use Rattle.std.proofs.Common.{◌≡◌, ℕ, zero, suc, ◌+◌, ◌-◌, ◌<◌, ◌≤◌, Option, Some, None, refl, sym, ap, ◌∙◌, subst, inl, inr, arith, add-one}
use Rattle.std.specs.Prelude.{◌⊎◌}
use Rattle.std.proofs.lemmas.Bool.{cases_lt}
use Rattle.register_kinds.specs.declared.kind.Violation.{Violation}
use Rattle.verifier.specs.Verdict.{or_at, first_from}

-- nothing is wrong here, so the first is behind
pub goes_on : (wrong : ℕ → Option Violation) (at n : ℕ) (total : Option (ℕ × Violation)) → at < n → wrong at ≡ None
    → first_from wrong at (n - at) ≡ total → first_from wrong (at + 1) (n - (at + 1)) ≡ total
goes_on wrong at n total lt none so_far =
    let k : n - at ≡ suc (n - (at + 1)) = omega arith in
    ap (λ (m : ℕ). first_from wrong m (n - (at + 1))) (add-one at)
    ∙ ap (λ (o : Option Violation). or_at at o (first_from wrong (suc at) (n - (at + 1)))) (sym none)
    ∙ ap (first_from wrong at) (sym k) ∙ so_far

pub is_here : (wrong : ℕ → Option Violation) (at n : ℕ) (v : Violation) (total : Option (ℕ × Violation)) → at < n
    → wrong at ≡ Some v → first_from wrong at (n - at) ≡ total → total ≡ Some (at, v)
is_here wrong at n v total lt some so_far =
    let k : n - at ≡ suc (n - (at + 1)) = omega arith in
    sym so_far ∙ ap (first_from wrong at) k ∙ ap (λ (o : Option Violation). or_at at o (first_from wrong (suc at) (n - (at + 1)))) some

pub is_none : (wrong : ℕ → Option Violation) (at n : ℕ) (total : Option (ℕ × Violation)) → n ≤ at
    → first_from wrong at (n - at) ≡ total → total ≡ None
is_none wrong at n total le so_far =
    let k : n - at ≡ 0 = omega arith in
    sym so_far ∙ ap (first_from wrong at) k

none_here : (at : ℕ) (o : Option Violation) (later : Option (ℕ × Violation)) → or_at at o later ≡ None → (o ≡ None) × (later ≡ None)
none_here at None later h = (refl, h)
none_here at (Some v) later h = absurd cc

-- where there is no first, nothing is wrong at any of the slots
pub all_none : (wrong : ℕ → Option Violation) (at n k : ℕ) → first_from wrong at n ≡ None → at ≤ k → k < at + n → wrong k ≡ None
all_none wrong at zero k h le lt = absurd (omega arith)
all_none wrong at (suc n) k h le lt =
    let p = none_here at (wrong at) (first_from wrong (suc at) n) h in
    elim (cases_le_lt at k le) [
      | inl same ↦ subst (λ (m : ℕ). wrong m ≡ None) same p.0
      | inr later ↦ all_none wrong (suc at) n k p.1 later (omega arith)
    ]
  where
    cases_le_lt : (a b : ℕ) → a ≤ b → (a ≡ b) ⊎ (suc a ≤ b)
    cases_le_lt a b le = elim (cases_lt a b) [ inl lt ↦ inr (omega arith) | inr ge ↦ inl (omega arith) ]
