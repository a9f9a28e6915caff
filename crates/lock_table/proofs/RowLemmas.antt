-- Rows of numbers, as one comes in or goes out.
use Rattle.std.proofs.Common.{arith, ◌≡◌, ◌≢◌, ℕ, ◌<◌, ◌≤◌, Bool, true, false, ◌&&◌, ◌||◌, not, ◌==◌, if◌then◌else◌, min, max}
use Rattle.std.proofs.Common.{refl, sym, ap, subst, ◌∙◌, inl, inr, true≢false}
use Rattle.std.specs.Prelude.{Option, Some, None}
use Rattle.std.proofs.lemmas.Bool.{cases_eq, cases_lt, cond-true, cond-false, eqb-true, eq-eqb}
use Rattle.std.proofs.lemmas.Bool.Decides.{nat_tests}
use Rattle.std.proofs.Math.Nat.{min-eq_left, min-eq_right, max-eq_left, max-eq_right}
use Rattle.lock_table.specs.Rows.{IsPrevious, IsNext, IsRow, with_txn, without_txn, end_left}

-- this is the number, where there is one
abbrev pub at_number : Option ℕ → ℕ → Bool
at_number None u = false
at_number (Some b) u = b == u

pub apart : (t u : ℕ) → t ≢ u → (t == u) ≡ false
apart t u h = grind (arith, nat_tests)

differ : (t u : ℕ) → (t == u) ≡ false → t ≢ u
differ t u h = grind (arith, nat_tests)

pub never : {A : Type 0} (b : Bool) → b ≡ true → b ≡ false → A
never b yes_it no_it = absurd (true≢false (sym yes_it ∙ no_it))

or_true : (b : Bool) → (b || true) ≡ true
or_true true = refl
or_true false = refl

and_false : (b : Bool) → (b && false) ≡ false
and_false true = refl
and_false false = refl

module _ (p : ℕ → Bool) (t : ℕ) where
  with_same : with_txn p t t ≡ true
  with_same = ap (λ (b : Bool). b || p t) (eq-eqb t t refl)

  with_in : (u : ℕ) → p u ≡ true → with_txn p t u ≡ true
  with_in u h = ap (λ (b : Bool). (t == u) || b) h ∙ or_true (t == u)

  with_other : (u : ℕ) → t ≢ u → with_txn p t u ≡ p u
  with_other u ne = ap (λ (b : Bool). b || p u) (apart t u ne)

  without_same : without_txn p t t ≡ false
  without_same = ap (λ (b : Bool). not b && p t) (eq-eqb t t refl)

  without_other : (u : ℕ) → t ≢ u → without_txn p t u ≡ p u
  without_other u ne = ap (λ (b : Bool). not b && p u) (apart t u ne)

  without_out : (u : ℕ) → p u ≡ false → without_txn p t u ≡ false
  without_out u h = ap (λ (b : Bool). not (t == u) && b) h ∙ and_false (not (t == u))

  without_is : (u : ℕ) → without_txn p t u ≡ true → (t ≢ u) × (p u ≡ true)
  without_is u h = elim (cases_eq t u) [
    | inl same ↦ never _ h (ap (without_txn p t) (sym same) ∙ without_same)
    | inr other ↦ (other, sym (without_other u other) ∙ h)
  ]

  -- ---- one comes in, between these

  module _ (before behind : Option ℕ) (out : p t ≡ false) (previous : IsPrevious p t before) (next : IsNext p t behind) where
    own_next : IsNext (with_txn p t) t behind
    own_next = by behind next
      where
        by : (o : Option ℕ) → IsNext p t o → IsNext (with_txn p t) t o
        by None h = λ u above. with_other u (omega (arith, above)) ∙ h u above
        by (Some n) h = (h.0, with_in n h.1, λ u above below. with_other u (omega (arith, above)) ∙ h.2 u above below)

    own_previous : IsPrevious (with_txn p t) t before
    own_previous = by before previous
      where
        by : (o : Option ℕ) → IsPrevious p t o → IsPrevious (with_txn p t) t o
        by None h = λ u below. with_other u (omega (arith, below)) ∙ h u below
        by (Some n) h = (h.0, with_in n h.1, λ u above below. with_other u (omega (arith, below)) ∙ h.2 u above below)

    -- the one before it
    led : (o : Option ℕ) (u : ℕ) → IsPrevious p t o → at_number o u ≡ true → IsNext (with_txn p t) u (Some t)
    led None u h at = absurd (true≢false (sym at))
    led (Some b) u h at =
        let same : b ≡ u = eqb-true b u at in
        let low : u < t = omega (arith, same, h.0) in
        (low, with_same, λ v above below. with_other v (omega (arith, below)) ∙ h.2 v (omega (arith, same, above)) below)

    -- the one behind it
    followed : (o : Option ℕ) (u : ℕ) → IsNext p t o → at_number o u ≡ true → IsPrevious (with_txn p t) u (Some t)
    followed None u h at = absurd (true≢false (sym at))
    followed (Some b) u h at =
        let same : b ≡ u = eqb-true b u at in
        let high : t < u = omega (arith, same, h.0) in
        (high, with_same, λ v above below. with_other v (omega (arith, above)) ∙ h.2 v above (omega (arith, same, below)))

    -- another one below is followed by one below
    below_next : (o x : Option ℕ) (u : ℕ) → IsPrevious p t o → at_number o u ≡ false → p u ≡ true → u < t → IsNext p u x → (n : ℕ) × (x ≡ Some n) × (n < t)
    below_next None x u h at is low step = never (p u) is (h u low)
    below_next (Some b) x u h at is low step = elim (cases_lt b u) [
      | inl less ↦ never (p u) is (h.2 u less low)
      | inr more ↦ by x step (let ne = differ b u at in omega (arith, more, ne))
    ]
      where
        by : (y : Option ℕ) → IsNext p u y → u < b → (n : ℕ) × (y ≡ Some n) × (n < t)
        by None s less = never (p b) h.1 (s b less)
        by (Some n) s less = elim (cases_lt b n) [
          | inl between ↦ never (p b) h.1 (s.2 b less between)
          | inr beyond ↦ (n, refl, omega (arith, beyond, h.0))
        ]

    above_previous : (o x : Option ℕ) (u : ℕ) → IsNext p t o → at_number o u ≡ false → p u ≡ true → t < u → IsPrevious p u x → (n : ℕ) × (x ≡ Some n) × (t < n)
    above_previous None x u h at is high step = never (p u) is (h u high)
    above_previous (Some b) x u h at is high step = elim (cases_lt u b) [
      | inl less ↦ never (p u) is (h.2 u high less)
      | inr more ↦ by x step (let ne = differ b u at in omega (arith, more, ne))
    ]
      where
        by : (y : Option ℕ) → IsPrevious p u y → b < u → (n : ℕ) × (y ≡ Some n) × (t < n)
        by None s less = never (p b) h.1 (s b less)
        by (Some n) s less = elim (cases_lt n b) [
          | inl between ↦ never (p b) h.1 (s.2 b between less)
          | inr beyond ↦ (n, refl, omega (arith, beyond, h.0))
        ]

    other_next : (x : Option ℕ) (u : ℕ) → t ≢ u → p u ≡ true → at_number before u ≡ false → IsNext p u x → IsNext (with_txn p t) u x
    other_next x u ne is at step = elim (cases_lt u t) [
      | inl low ↦ (let n = below_next before x u previous at is low step in
          subst (IsNext (with_txn p t) u) (sym n.1) (by_some n.0 (omega (arith, n.2)) (subst (IsNext p u) n.1 step)))
      | inr high ↦ by_high x (omega (arith, high, ne)) step
    ]
      where
        by_some : (n : ℕ) → n < t → IsNext p u (Some n) → IsNext (with_txn p t) u (Some n)
        by_some n low s = (s.0, with_in n s.1, λ v above below. with_other v (omega (arith, low, below)) ∙ s.2 v above below)

        by_high : (y : Option ℕ) → t < u → IsNext p u y → IsNext (with_txn p t) u y
        by_high None high s = λ v above. with_other v (omega (arith, high, above)) ∙ s v above
        by_high (Some n) high s = (s.0, with_in n s.1, λ v above below. with_other v (omega (arith, high, above)) ∙ s.2 v above below)

    other_previous : (x : Option ℕ) (u : ℕ) → t ≢ u → p u ≡ true → at_number behind u ≡ false → IsPrevious p u x → IsPrevious (with_txn p t) u x
    other_previous x u ne is at step = elim (cases_lt t u) [
      | inl high ↦ (let n = above_previous behind x u next at is high step in
          subst (IsPrevious (with_txn p t) u) (sym n.1) (by_some n.0 (omega (arith, n.2)) (subst (IsPrevious p u) n.1 step)))
      | inr low ↦ by_low x (omega (arith, low, ne)) step
    ]
      where
        by_some : (n : ℕ) → t < n → IsPrevious p u (Some n) → IsPrevious (with_txn p t) u (Some n)
        by_some n high s = (s.0, with_in n s.1, λ v above below. with_other v (omega (arith, high, above)) ∙ s.2 v above below)

        by_low : (y : Option ℕ) → u < t → IsPrevious p u y → IsPrevious (with_txn p t) u y
        by_low None low s = λ v below. with_other v (omega (arith, low, below)) ∙ s v below
        by_low (Some n) low s = (s.0, with_in n s.1, λ v above below. with_other v (omega (arith, low, below)) ∙ s.2 v above below)

    -- no other number has neighbours
    out_at : (o : Option ℕ) (u : ℕ) → ((n : ℕ) → o ≡ Some n → p n ≡ true) → p u ≡ false → at_number o u ≡ false
    out_at None u all h = refl
    out_at (Some b) u all h = apart b u (λ same. never (p b) (all b refl) (ap p same ∙ h))

    -- where one stands that isn't the new one nor next to it
    kept_at : (o x : Option ℕ) (y : Option ℕ) (u : ℕ) → t ≢ u → at_number o u ≡ false → (if t == u then x else if at_number o u then Some t else y) ≡ y
    kept_at o x y u ne at = cond-false _ _ _ (apart t u ne) ∙ cond-false _ _ _ at

    next_after : (x y : Option ℕ) (u : ℕ) → y ≡ (if t == u then behind else if at_number before u then Some t else x) → (p u ≡ true → IsNext p u x)
        → with_txn p t u ≡ true → IsNext (with_txn p t) u y
    next_after x y u is step here = elim (cases_eq t u) [
      | inl same ↦ subst (λ (v : ℕ). IsNext (with_txn p t) v y) same (subst (IsNext (with_txn p t) t) (sym (is ∙ cond-true _ _ _ (eq-eqb t u same))) own_next)
      | inr ne ↦ by (at_number before u) refl ne (sym (with_other u ne) ∙ here)
    ]
      where
        by : (b : Bool) → at_number before u ≡ b → t ≢ u → p u ≡ true → IsNext (with_txn p t) u y
        by true at ne old = subst (IsNext (with_txn p t) u) (sym (is ∙ cond-false _ _ _ (apart t u ne) ∙ cond-true _ _ _ at)) (led before u previous at)
        by false at ne old = subst (IsNext (with_txn p t) u) (sym (is ∙ kept_at before behind x u ne at)) (other_next x u ne old at (step old))

    previous_after : (x y : Option ℕ) (u : ℕ) → y ≡ (if t == u then before else if at_number behind u then Some t else x) → (p u ≡ true → IsPrevious p u x)
        → with_txn p t u ≡ true → IsPrevious (with_txn p t) u y
    previous_after x y u is step here = elim (cases_eq t u) [
      | inl same ↦ subst (λ (v : ℕ). IsPrevious (with_txn p t) v y) same (subst (IsPrevious (with_txn p t) t) (sym (is ∙ cond-true _ _ _ (eq-eqb t u same))) own_previous)
      | inr ne ↦ by (at_number behind u) refl ne (sym (with_other u ne) ∙ here)
    ]
      where
        by : (b : Bool) → at_number behind u ≡ b → t ≢ u → p u ≡ true → IsPrevious (with_txn p t) u y
        by true at ne old = subst (IsPrevious (with_txn p t) u) (sym (is ∙ cond-false _ _ _ (apart t u ne) ∙ cond-true _ _ _ at)) (followed behind u next at)
        by false at ne old = subst (IsPrevious (with_txn p t) u) (sym (is ∙ kept_at behind before x u ne at)) (other_previous x u ne old at (step old))

    previous_in : (n : ℕ) → before ≡ Some n → p n ≡ true
    previous_in n is = (subst (IsPrevious p t) is previous).1

    next_in : (n : ℕ) → behind ≡ Some n → p n ≡ true
    next_in n is = (subst (IsNext p t) is next).1

    none_after : (o x y z : Option ℕ) (u : ℕ) → ((n : ℕ) → o ≡ Some n → p n ≡ true) → y ≡ (if t == u then z else if at_number o u then Some t else x)
        → (p u ≡ false → x ≡ None) → with_txn p t u ≡ false → y ≡ None
    none_after o x y z u all is none here = elim (cases_eq t u) [
      | inl same ↦ never _ (ap (with_txn p t) (sym same) ∙ with_same) here
      | inr ne ↦ (let old : p u ≡ false = sym (with_other u ne) ∙ here in is ∙ kept_at o z x u ne (out_at o u all old) ∙ none old)
    ]

    ends_after : (first last : ℕ) → p first ≡ true → p last ≡ true → ((u : ℕ) → p u ≡ true → first ≤ u) → ((u : ℕ) → p u ≡ true → u ≤ last)
        → (with_txn p t (min t first) ≡ true) × (with_txn p t (max t last) ≡ true)
        × ((u : ℕ) → with_txn p t u ≡ true → min t first ≤ u) × ((u : ℕ) → with_txn p t u ≡ true → u ≤ max t last)
    ends_after first last one two least greatest = (
      elim (cases_lt t first) [
        | inl low ↦ ap (with_txn p t) (min-eq_left (omega (arith, low))) ∙ with_same
        | inr high ↦ ap (with_txn p t) (min-eq_right high) ∙ with_in first one
      ],
      elim (cases_lt last t) [
        | inl high ↦ ap (with_txn p t) (max-eq_left (omega (arith, high))) ∙ with_same
        | inr low ↦ ap (with_txn p t) (max-eq_right low) ∙ with_in last two
      ],
      (λ u here. elim (cases_eq t u) [
        | inl same ↦ omega (arith, same)
        | inr ne ↦ omega (arith, least u (sym (with_other u ne) ∙ here))
      ]),
      (λ u here. elim (cases_eq t u) [
        | inl same ↦ omega (arith, same)
        | inr ne ↦ omega (arith, greatest u (sym (with_other u ne) ∙ here))
      ]),
    )

    pub entered : (first last : ℕ) (bf bh bf' bh' : ℕ → Option ℕ) → IsRow p first last bf bh
        → ((u : ℕ) → bf' u ≡ (if t == u then before else if at_number behind u then Some t else bf u))
        → ((u : ℕ) → bh' u ≡ (if t == u then behind else if at_number before u then Some t else bh u))
        → IsRow (with_txn p t) (min t first) (max t last) bf' bh'
    entered first last bf bh bf' bh' row is_before is_behind =
        let ends = ends_after first last row.first_in row.last_in row.least row.greatest in
        record {
          first_in = ends.0;
          last_in = ends.1;
          least = ends.2;
          greatest = ends.3;
          previous = λ u here. previous_after (bf u) (bf' u) u (is_before u) (row.previous u) here;
          next = λ u here. next_after (bh u) (bh' u) u (is_behind u) (row.next u) here;
          none = λ u here. (
            none_after behind (bf u) (bf' u) before u next_in (is_before u) (λ old. (row.none u old).0) here,
            none_after before (bh u) (bh' u) behind u previous_in (is_behind u) (λ old. (row.none u old).1) here,
          );
        }

  -- ---- one goes out, that stands between these

  module _ (before behind : Option ℕ) (there : p t ≡ true) (previous : IsPrevious p t before) (next : IsNext p t behind) where
    -- the one before it is followed by the one behind it
    joined_next : (o x : Option ℕ) (u : ℕ) → IsPrevious p t o → at_number o u ≡ true → IsNext p t x → IsNext (without_txn p t) u x
    joined_next None x u h at s = absurd (true≢false (sym at))
    joined_next (Some b) x u h at s = by x s (eqb-true b u at)
      where
        between : (v : ℕ) → u < v → (t < v → p v ≡ false) → b ≡ u → without_txn p t v ≡ false
        between v above beyond same = elim (cases_lt v t) [
          | inl low ↦ without_out v (h.2 v (omega (arith, same, above)) low)
          | inr high ↦ elim (cases_eq t v) [
            | inl it ↦ ap (without_txn p t) (sym it) ∙ without_same
            | inr ne ↦ without_out v (beyond (omega (arith, high, ne)))
          ]
        ]

        by : (y : Option ℕ) → IsNext p t y → b ≡ u → IsNext (without_txn p t) u y
        by None r same = λ v above. between v above (r v) same
        by (Some n) r same = (
          omega (arith, same, h.0, r.0),
          without_other n (omega (arith, r.0)) ∙ r.1,
          λ v above below. between v above (λ beyond. r.2 v beyond below) same,
        )

    joined_previous : (o x : Option ℕ) (u : ℕ) → IsNext p t o → at_number o u ≡ true → IsPrevious p t x → IsPrevious (without_txn p t) u x
    joined_previous None x u h at s = absurd (true≢false (sym at))
    joined_previous (Some b) x u h at s = by x s (eqb-true b u at)
      where
        between : (v : ℕ) → v < u → (v < t → p v ≡ false) → b ≡ u → without_txn p t v ≡ false
        between v below beyond same = elim (cases_lt t v) [
          | inl high ↦ without_out v (h.2 v high (omega (arith, same, below)))
          | inr low ↦ elim (cases_eq t v) [
            | inl it ↦ ap (without_txn p t) (sym it) ∙ without_same
            | inr ne ↦ without_out v (beyond (omega (arith, low, ne)))
          ]
        ]

        by : (y : Option ℕ) → IsPrevious p t y → b ≡ u → IsPrevious (without_txn p t) u y
        by None r same = λ v below. between v below (r v) same
        by (Some n) r same = (
          omega (arith, same, h.0, r.0),
          without_other n (omega (arith, r.0)) ∙ r.1,
          λ v above below. between v below (λ beyond. r.2 v above beyond) same,
        )

    -- one that isn't before it isn't followed by it
    not_led : (o : Option ℕ) (u : ℕ) → IsPrevious p t o → at_number o u ≡ false → p u ≡ true → IsNext p u (Some t) → ⊥
    not_led None u h at is s = never (p u) is (h u s.0)
    not_led (Some b) u h at is s = elim (cases_lt b u) [
      | inl less ↦ never (p u) is (h.2 u less s.0)
      | inr more ↦ (let ne = differ b u at in never (p b) h.1 (s.2 b (omega (arith, more, ne)) h.0))
    ]

    not_followed : (o : Option ℕ) (u : ℕ) → IsNext p t o → at_number o u ≡ false → p u ≡ true → IsPrevious p u (Some t) → ⊥
    not_followed None u h at is s = never (p u) is (h u s.0)
    not_followed (Some b) u h at is s = elim (cases_lt u b) [
      | inl less ↦ never (p u) is (h.2 u s.0 less)
      | inr more ↦ (let ne = differ b u at in never (p b) h.1 (s.2 b h.0 (omega (arith, more, ne))))
    ]

    left_next : (x : Option ℕ) (u : ℕ) → at_number before u ≡ false → p u ≡ true → IsNext p u x → IsNext (without_txn p t) u x
    left_next None u at is s = λ v above. without_out v (s v above)
    left_next (Some n) u at is s = elim (cases_eq t n) [
      | inl same ↦ absurd (not_led before u previous at is (subst (λ (m : ℕ). IsNext p u (Some m)) (sym same) s))
      | inr ne ↦ (s.0, without_other n ne ∙ s.1, λ v above below. without_out v (s.2 v above below))
    ]

    left_previous : (x : Option ℕ) (u : ℕ) → at_number behind u ≡ false → p u ≡ true → IsPrevious p u x → IsPrevious (without_txn p t) u x
    left_previous None u at is s = λ v below. without_out v (s v below)
    left_previous (Some n) u at is s = elim (cases_eq t n) [
      | inl same ↦ absurd (not_followed behind u next at is (subst (λ (m : ℕ). IsPrevious p u (Some m)) (sym same) s))
      | inr ne ↦ (s.0, without_other n ne ∙ s.1, λ v above below. without_out v (s.2 v above below))
    ]

    next_left : (x y : Option ℕ) (u : ℕ) → y ≡ (if t == u then None else if at_number before u then behind else x) → (p u ≡ true → IsNext p u x)
        → without_txn p t u ≡ true → IsNext (without_txn p t) u y
    next_left x y u is step here = by (at_number before u) refl (without_is u here)
      where
        by : (b : Bool) → at_number before u ≡ b → (t ≢ u) × (p u ≡ true) → IsNext (without_txn p t) u y
        by true at old = subst (IsNext (without_txn p t) u) (sym (is ∙ cond-false _ _ _ (apart t u old.0) ∙ cond-true _ _ _ at)) (joined_next before behind u previous at next)
        by false at old = subst (IsNext (without_txn p t) u) (sym (is ∙ cond-false _ _ _ (apart t u old.0) ∙ cond-false _ _ _ at)) (left_next x u at old.1 (step old.1))

    previous_left : (x y : Option ℕ) (u : ℕ) → y ≡ (if t == u then None else if at_number behind u then before else x) → (p u ≡ true → IsPrevious p u x)
        → without_txn p t u ≡ true → IsPrevious (without_txn p t) u y
    previous_left x y u is step here = by (at_number behind u) refl (without_is u here)
      where
        by : (b : Bool) → at_number behind u ≡ b → (t ≢ u) × (p u ≡ true) → IsPrevious (without_txn p t) u y
        by true at old = subst (IsPrevious (without_txn p t) u) (sym (is ∙ cond-false _ _ _ (apart t u old.0) ∙ cond-true _ _ _ at)) (joined_previous behind before u next at previous)
        by false at old = subst (IsPrevious (without_txn p t) u) (sym (is ∙ cond-false _ _ _ (apart t u old.0) ∙ cond-false _ _ _ at)) (left_previous x u at old.1 (step old.1))

    gone_at : (o : Option ℕ) (u : ℕ) → ((n : ℕ) → o ≡ Some n → p n ≡ true) → p u ≡ false → at_number o u ≡ false
    gone_at None u all h = refl
    gone_at (Some b) u all h = apart b u (λ same. never (p b) (all b refl) (ap p same ∙ h))

    none_left : (o x y z : Option ℕ) (u : ℕ) → ((n : ℕ) → o ≡ Some n → p n ≡ true) → y ≡ (if t == u then None else if at_number o u then z else x)
        → (p u ≡ false → x ≡ None) → without_txn p t u ≡ false → y ≡ None
    none_left o x y z u all is none here = elim (cases_eq t u) [
      | inl same ↦ is ∙ cond-true _ _ _ (eq-eqb t u same)
      | inr ne ↦ (let old : p u ≡ false = sym (without_other u ne) ∙ here in
          is ∙ cond-false _ _ _ (apart t u ne) ∙ cond-false _ _ _ (gone_at o u all old) ∙ none old)
    ]

    previous_there : (n : ℕ) → before ≡ Some n → p n ≡ true
    previous_there n is = (subst (IsPrevious p t) is previous).1

    next_there : (n : ℕ) → behind ≡ Some n → p n ≡ true
    next_there n is = (subst (IsNext p t) is next).1

    first_left : (o x : Option ℕ) (first last : ℕ) → IsPrevious p t o → IsNext p t x → first ≢ last → p first ≡ true → p last ≡ true
        → ((u : ℕ) → p u ≡ true → first ≤ u) → ((u : ℕ) → p u ≡ true → u ≤ last)
        → (without_txn p t (end_left first o x) ≡ true) × ((u : ℕ) → without_txn p t u ≡ true → end_left first o x ≤ u)
    first_left None None first last h s several one two least greatest =
        let low : t ≤ first = elim (cases_lt first t) [ inl less ↦ never (p first) one (h first less) | inr more ↦ more ] in
        let high : last ≤ t = elim (cases_lt t last) [ inl less ↦ never (p last) two (s last less) | inr more ↦ more ] in
        absurd (several (omega (arith, low, high, least last two)))
    first_left None (Some n) first last h s several one two least greatest =
        let low : t ≤ first = elim (cases_lt first t) [ inl less ↦ never (p first) one (h first less) | inr more ↦ more ] in (
          without_other n (omega (arith, s.0)) ∙ s.1,
          λ u here.
              let old = without_is u here in
              elim (cases_lt u n) [
                | inl less ↦ never (p u) old.1 (s.2 u (omega (arith, low, least u old.1, old.0)) less)
                | inr more ↦ more
              ],
        )
    first_left (Some b) x first last h s several one two least greatest =
        (without_other first (omega (arith, least b h.1, h.0)) ∙ one, λ u here. least u (without_is u here).1)

    last_left : (o x : Option ℕ) (first last : ℕ) → IsNext p t o → IsPrevious p t x → first ≢ last → p first ≡ true → p last ≡ true
        → ((u : ℕ) → p u ≡ true → first ≤ u) → ((u : ℕ) → p u ≡ true → u ≤ last)
        → (without_txn p t (end_left last o x) ≡ true) × ((u : ℕ) → without_txn p t u ≡ true → u ≤ end_left last o x)
    last_left None None first last h s several one two least greatest =
        let high : last ≤ t = elim (cases_lt t last) [ inl less ↦ never (p last) two (h last less) | inr more ↦ more ] in
        let low : t ≤ first = elim (cases_lt first t) [ inl less ↦ never (p first) one (s first less) | inr more ↦ more ] in
        absurd (several (omega (arith, low, high, least last two)))
    last_left None (Some n) first last h s several one two least greatest =
        let high : last ≤ t = elim (cases_lt t last) [ inl less ↦ never (p last) two (h last less) | inr more ↦ more ] in (
          without_other n (omega (arith, s.0)) ∙ s.1,
          λ u here.
              let old = without_is u here in
              elim (cases_lt n u) [
                | inl less ↦ never (p u) old.1 (s.2 u less (omega (arith, high, greatest u old.1, old.0)))
                | inr more ↦ more
              ],
        )
    last_left (Some b) x first last h s several one two least greatest =
        (without_other last (omega (arith, greatest b h.1, h.0)) ∙ two, λ u here. greatest u (without_is u here).1)

    pub parted : (first last : ℕ) (bf bh bf' bh' : ℕ → Option ℕ) → first ≢ last → IsRow p first last bf bh
        → ((u : ℕ) → bf' u ≡ (if t == u then None else if at_number behind u then before else bf u))
        → ((u : ℕ) → bh' u ≡ (if t == u then None else if at_number before u then behind else bh u))
        → IsRow (without_txn p t) (end_left first before behind) (end_left last behind before) bf' bh'
    parted first last bf bh bf' bh' several row is_before is_behind =
        let low = first_left before behind first last previous next several row.first_in row.last_in row.least row.greatest in
        let high = last_left behind before first last next previous several row.first_in row.last_in row.least row.greatest in
        record {
          first_in = low.0;
          last_in = high.0;
          least = low.1;
          greatest = high.1;
          previous = λ u here. previous_left (bf u) (bf' u) u (is_before u) (row.previous u) here;
          next = λ u here. next_left (bh u) (bh' u) u (is_behind u) (row.next u) here;
          none = λ u here. (
            none_left behind (bf u) (bf' u) before u next_there (is_before u) (λ old. (row.none u old).0) here,
            none_left before (bh u) (bh' u) behind u previous_there (is_behind u) (λ old. (row.none u old).1) here,
          );
        }

-- ---- the next one above a number, by the one below it

pub next_beyond : (p : ℕ → Bool) (t b : ℕ) (x : Option ℕ) → p t ≡ false → IsPrevious p t (Some b) → IsNext p b x → IsNext p t x
next_beyond p t b None out previous next = λ u above. next u (omega (arith, previous.0, above))
next_beyond p t b (Some n) out previous next = (
  elim (cases_lt t n) [
    | inl above ↦ above
    | inr low ↦ elim (cases_eq t n) [
      | inl same ↦ never (p n) next.1 (ap p (sym same) ∙ out)
      | inr ne ↦ never (p n) next.1 (previous.2 n next.0 (omega (arith, low, ne)))
    ]
  ],
  next.1,
  λ u above below. next.2 u (omega (arith, previous.0, above)) below,
)

pub next_first : (p : ℕ → Bool) (t first last : ℕ) (before behind : ℕ → Option ℕ) → IsRow p first last before behind → p t ≡ false → IsPrevious p t None → IsNext p t (Some first)
next_first p t first last before behind row out previous = (
  elim (cases_lt t first) [
    | inl above ↦ above
    | inr low ↦ elim (cases_eq t first) [
      | inl same ↦ never (p first) row.first_in (ap p (sym same) ∙ out)
      | inr ne ↦ never (p first) row.first_in (previous first (omega (arith, low, ne)))
    ]
  ],
  row.first_in,
  λ u above below. by u below (p u) refl,
)
  where
    by : (u : ℕ) → u < first → (b : Bool) → p u ≡ b → p u ≡ false
    by u below false e = e
    by u below true e = absurd (omega (arith, below, row.least u e))

-- ---- the one below a number, from the last one backwards

pub previous_here : (p : ℕ → Bool) (t n : ℕ) → n < t → p n ≡ true → ((u : ℕ) → n < u → p u ≡ true → t < u) → IsPrevious p t (Some n)
previous_here p t n low here above = (low, here, λ u more less. by u more less (p u) refl)
  where
    by : (u : ℕ) → n < u → u < t → (b : Bool) → p u ≡ b → p u ≡ false
    by u more less false e = e
    by u more less true e = absurd (omega (arith, less, above u more e))

pub previous_none : (p : ℕ → Bool) (t n : ℕ) → t ≤ n → IsPrevious p n None → IsPrevious p t None
previous_none p t n low none = λ u below. none u (omega (arith, below, low))

pub above_before : (p : ℕ → Bool) (t n b : ℕ) → t ≤ n → p n ≡ true → p t ≡ false → ((u : ℕ) → n < u → p u ≡ true → t < u) → IsPrevious p n (Some b)
    → (u : ℕ) → b < u → p u ≡ true → t < u
above_before p t n b low here out above previous u more is = elim (cases_lt n u) [
  | inl beyond ↦ above u beyond is
  | inr less ↦ elim (cases_eq u n) [
    | inl same ↦ elim (cases_eq t n) [
      | inl it ↦ never (p n) here (ap p (sym it) ∙ out)
      | inr ne ↦ omega (arith, low, ne, same)
    ]
    | inr other ↦ never (p u) is (previous.2 u more (omega (arith, less, other)))
  ]
]

-- ---- the one before a number is followed by it

pub led_by : (p : ℕ → Bool) (t b : ℕ) (x : Option ℕ) → p t ≡ true → IsPrevious p t (Some b) → IsNext p b x → x ≡ Some t
led_by p t b None here previous next = never (p t) here (next t previous.0)
led_by p t b (Some n) here previous next = elim (cases_lt n t) [
  | inl low ↦ never (p n) next.1 (previous.2 n next.0 low)
  | inr high ↦ elim (cases_lt t n) [
    | inl beyond ↦ never (p t) here (next.2 t previous.0 beyond)
    | inr less ↦ (let same : n ≡ t = omega (arith, high, less) in ap (λ (k : ℕ). Some k) same)
  ]
]

pub followed_by : (p : ℕ → Bool) (t b : ℕ) (x : Option ℕ) → p t ≡ true → IsNext p t (Some b) → IsPrevious p b x → x ≡ Some t
followed_by p t b None here next previous = never (p t) here (previous t next.0)
followed_by p t b (Some n) here next previous = elim (cases_lt t n) [
  | inl high ↦ never (p n) previous.1 (next.2 n high previous.0)
  | inr low ↦ elim (cases_lt n t) [
    | inl less ↦ never (p t) here (previous.2 t less next.0)
    | inr more ↦ (let same : n ≡ t = omega (arith, low, more) in ap (λ (k : ℕ). Some k) same)
  ]
]
