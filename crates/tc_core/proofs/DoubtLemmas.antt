-- Numbers that were given up: one more, one fewer, and how many.
use Rattle.std.proofs.Common.{◌≡◌, ◌≢◌, ℕ, ◌+◌, ◌<◌, ◌≤◌, Bool, true, false, not, ◌||◌, List, [], ◌∷◌, ◌++◌, length}
use Rattle.std.proofs.Common.{arith, refl, sym, ◌∙◌, ap, subst, cond, zero, suc, inl, inr, ◌==◌}
use Rattle.std.proofs.lemmas.Bool.{cases_eq, cond-true, cond-false, eqb-true}
use Rattle.request_numbers.specs.Given.{holds, others}
use Rattle.tc_log.specs.declared.event.Event.{Event}
use Rattle.tc_log.specs.declared.event.Event.TheVariants.{Answer}
use Rattle.transactions.specs.Room.{one_if}
use Rattle.transactions.proofs.StandingLemmas.{eq-true, eq-false}
use Rattle.tc_core.specs.Doubts.{with_number_by, given_up_behind, marks, AreOnce}

or_true : (b : Bool) → (b || true) ≡ true
or_true true = refl
or_true false = refl

pub holds_other : (ns : List ℕ) (n m : ℕ) → n ≢ m → holds m (ns ++ n ∷ []) ≡ holds m ns
holds_other [] n m other = ap (λ (b : Bool). b || false) (eq-false n m other)
holds_other (x ∷ ns) n m other = ap (λ (b : Bool). (x == m) || b) (holds_other ns n m other)

pub holds_same : (ns : List ℕ) (n : ℕ) → holds n (ns ++ n ∷ []) ≡ true
holds_same [] n = ap (λ (b : Bool). b || false) (eq-true n n refl)
holds_same (x ∷ ns) n = ap (λ (b : Bool). (x == n) || b) (holds_same ns n) ∙ or_true (x == n)

one_few : (b : Bool) → one_if b ≤ 1
one_few true = omega arith
one_few false = omega arith

marks_below : (ns : List ℕ) (n most : ℕ) → most < n → marks (ns ++ n ∷ []) most ≡ marks ns most
marks_below ns n zero above = refl
marks_below ns n (suc most) above =
    let ih = marks_below ns n most (omega (arith, above)) in
    let same = ap one_if (holds_other ns n (suc most) (omega (arith, above))) in
    omega (arith, ih, same)

marks_push : (ns : List ℕ) (n most : ℕ) → 0 < n → n ≤ most → holds n ns ≡ false → marks (ns ++ n ∷ []) most ≡ marks ns most + 1
marks_push ns n zero some inside free = absurd (omega (arith, some, inside))
marks_push ns n (suc most) some inside free = elim (cases_eq n (suc most)) [
  | inl same ↦
      let below = marks_below ns n most (omega (arith, same)) in
      let none : one_if (holds (suc most) ns) ≡ 0 = ap one_if (ap (λ (k : ℕ). holds k ns) (sym same) ∙ free) in
      let one : one_if (holds (suc most) (ns ++ n ∷ [])) ≡ 1 = ap one_if (ap (λ (k : ℕ). holds k (ns ++ n ∷ [])) (sym same) ∙ holds_same ns n) in
      omega (arith, below, none, one)
  | inr other ↦
      let ih = marks_push ns n most some (omega (arith, inside, other)) free in
      let same = ap one_if (holds_other ns n (suc most) other) in
      omega (arith, ih, same)
]

marks_more : (ns : List ℕ) (low high : ℕ) → low ≤ high → ((m : ℕ) → low < m → holds m ns ≡ false) → marks ns high ≡ marks ns low
marks_more ns low zero few past = (let same : low ≡ 0 = omega (arith, few) in ap (marks ns) (sym same))
marks_more ns low (suc high) few past = elim (cases_eq low (suc high)) [
  | inl same ↦ ap (marks ns) (sym same)
  | inr other ↦
      let ih = marks_more ns low high (omega (arith, few, other)) past in
      let none : one_if (holds (suc high) ns) ≡ 0 = ap one_if (past (suc high) (omega (arith, few, other))) in
      omega (arith, ih, none)
]

marks_none : (n : ℕ) → marks [] n ≡ 0
marks_none zero = refl
marks_none (suc n) = omega (arith, marks_none n)

pub once_none : (n : ℕ) → AreOnce n []
once_none n = sym (marks_none n)

length_push : (ns : List ℕ) (n : ℕ) → length (ns ++ n ∷ []) ≡ length ns + 1
length_push [] n = refl
length_push (x ∷ ns) n = omega (arith, length_push ns n)

-- numbers, each of which is there once, and one more
once_push : (ns : List ℕ) (n most : ℕ) → 0 < n → n ≤ most → holds n ns ≡ false → AreOnce most ns → AreOnce most (ns ++ n ∷ [])
once_push ns n most some inside free once = omega (arith, length_push ns n, once, marks_push ns n most some inside free)

pub once_with : (b : Bool) (ns : List ℕ) (n most : ℕ) → 0 < n → n ≤ most → holds n ns ≡ b → AreOnce most ns → AreOnce most (with_number_by b n ns)
once_with true ns n most some inside there once = once
once_with false ns n most some inside there once = once_push ns n most some inside there once

pub once_more : (ns : List ℕ) (low high : ℕ) → low ≤ high → ((m : ℕ) → low < m → holds m ns ≡ false) → AreOnce low ns → AreOnce high ns
once_more ns low high few past once = once ∙ sym (marks_more ns low high few past)

-- ---- a number that is left out

left_by : (b : Bool) (x n m : ℕ) (ns rest : List ℕ) → (x == n) ≡ b → n ≢ m → holds m rest ≡ holds m ns
    → holds m (cond (not b) (x ∷ rest) rest) ≡ holds m (x ∷ ns)
left_by false x n m ns rest own other was = ap (λ (b : Bool). (x == m) || b) was
left_by true x n m ns rest own other was =
    was ∙ sym (ap (λ (b : Bool). b || holds m ns) (eq-false x m (λ same. other (sym (eqb-true x n own) ∙ same))))

pub holds_others : (ns : List ℕ) (n m : ℕ) → n ≢ m → holds m (others n ns) ≡ holds m ns
holds_others [] n m other = refl
holds_others (x ∷ ns) n m other = left_by (x == n) x n m ns (others n ns) refl other (holds_others ns n m other)

gone_by : (b : Bool) (x n : ℕ) (rest : List ℕ) → (x == n) ≡ b → holds n rest ≡ false → holds n (cond (not b) (x ∷ rest) rest) ≡ false
gone_by false x n rest own gone = ap (λ (b : Bool). b || holds n rest) own ∙ gone
gone_by true x n rest own gone = gone

holds_itself : (ns : List ℕ) (n : ℕ) → holds n (others n ns) ≡ false
holds_itself [] n = refl
holds_itself (x ∷ ns) n = gone_by (x == n) x n (others n ns) refl (holds_itself ns n)

-- what isn't there isn't there without another
pub others_free : (ns : List ℕ) (n m : ℕ) → holds m ns ≡ false → holds m (others n ns) ≡ false
others_free ns n m free = elim (cases_eq n m) [
  | inl same ↦ subst (λ (k : ℕ). holds k (others n ns) ≡ false) same (holds_itself ns n)
  | inr other ↦ holds_others ns n m other ∙ free
]

-- what is there without another is there
others_held : (ns : List ℕ) (n m : ℕ) → holds m (others n ns) ≡ true → holds m ns ≡ true
others_held ns n m held = elim (cases_eq n m) [
  | inl same ↦
      let gone : holds m (others n ns) ≡ false = subst (λ (k : ℕ). holds k (others n ns) ≡ false) same (holds_itself ns n) in
      let bad : true ≡ false = sym held ∙ gone in
      absurd cc
  | inr other ↦ sym (holds_others ns n m other) ∙ held
]

-- what is among others is so without the same one
pub others_within : (ns ms : List ℕ) (n : ℕ) → ((m : ℕ) → holds m ns ≡ true → holds m ms ≡ true)
    → (m : ℕ) → holds m (others n ns) ≡ true → holds m (others n ms) ≡ true
others_within ns ms n within m held = elim (cases_eq n m) [
  | inl same ↦
      let gone : holds m (others n ns) ≡ false = subst (λ (k : ℕ). holds k (others n ns) ≡ false) same (holds_itself ns n) in
      let bad : true ≡ false = sym held ∙ gone in
      absurd cc
  | inr other ↦ holds_others ms n m other ∙ within m (others_held ns n m held)
]

-- what is given up behind an event was given up before it
pub given_up_before : (e : Event) (ns : List ℕ) (m : ℕ) → holds m (given_up_behind e ns) ≡ true → holds m ns ≡ true
given_up_before (Answer t n said) ns m held = others_held ns n m held
given_up_before _ ns m held = held

few_by : (b : Bool) (x : ℕ) (ns rest : List ℕ) → length rest ≤ length ns → length (cond b (x ∷ rest) rest) ≤ length (x ∷ ns)
few_by true x ns rest few = omega (arith, few)
few_by false x ns rest few = omega (arith, few)

others_few : (ns : List ℕ) (n : ℕ) → length (others n ns) ≤ length ns
others_few [] n = omega arith
others_few (x ∷ ns) n = few_by (not (x == n)) x ns (others n ns) (others_few ns n)

pub others_fewer : (ns : List ℕ) (n : ℕ) → holds n ns ≡ true → length (others n ns) + 1 ≤ length ns
others_fewer [] n is = absurd cc
others_fewer (x ∷ ns) n is = elim (cases_eq x n) [
  | inl same ↦
      let gone : others n (x ∷ ns) ≡ others n ns = cond-false _ _ _ (ap not (eq-true x n same)) in
      omega (arith, ap length gone, others_few ns n)
  | inr other ↦
      let kept : others n (x ∷ ns) ≡ x ∷ others n ns = cond-true _ _ _ (ap not (eq-false x n other)) in
      let later : holds n ns ≡ true = sym (ap (λ (b : Bool). b || holds n ns) (eq-false x n other)) ∙ is in
      omega (arith, ap length kept, others_fewer ns n later)
]

others_same_by : (b : Bool) (x n : ℕ) (ns rest : List ℕ) → (x == n) ≡ b → ((x == n) || holds n ns) ≡ false → (holds n ns ≡ false → rest ≡ ns)
    → cond (not b) (x ∷ rest) rest ≡ x ∷ ns
others_same_by false x n ns rest own free same =
    ap (λ (l : List ℕ). x ∷ l) (same (sym (ap (λ (b : Bool). b || holds n ns) own) ∙ free))
others_same_by true x n ns rest own free same = absurd (let bad : true ≡ false = sym (ap (λ (b : Bool). b || holds n ns) own) ∙ free in cc)

-- without one that isn't there they are the same
pub others_same : (ns : List ℕ) (n : ℕ) → holds n ns ≡ false → others n ns ≡ ns
others_same [] n free = refl
others_same (x ∷ ns) n free = others_same_by (x == n) x n ns (others n ns) refl free (λ rest. others_same ns n rest)

-- ---- and distinct numbers of which one is left out

marks_first_below : (x : ℕ) (ns : List ℕ) (most : ℕ) → most < x → marks (x ∷ ns) most ≡ marks ns most
marks_first_below x ns zero above = refl
marks_first_below x ns (suc most) above =
    let ih = marks_first_below x ns most (omega (arith, above)) in
    let same : one_if (holds (suc most) (x ∷ ns)) ≡ one_if (holds (suc most) ns) =
    ap (λ (b : Bool). one_if (b || holds (suc most) ns)) (eq-false x (suc most) (λ same. absurd (omega (arith, above, same)))) in
    omega (arith, ih, same)

marks_first : (x : ℕ) (ns : List ℕ) (most : ℕ) → marks (x ∷ ns) most ≤ marks ns most + 1
marks_first x ns zero = omega arith
marks_first x ns (suc most) = elim (cases_eq x (suc most)) [
  | inl same ↦ omega (arith, marks_first_below x ns most (omega (arith, same)), one_few (holds (suc most) (x ∷ ns)))
  | inr other ↦
      let alike : one_if (holds (suc most) (x ∷ ns)) ≡ one_if (holds (suc most) ns) =
      ap (λ (b : Bool). one_if (b || holds (suc most) ns)) (eq-false x (suc most) other) in
      omega (arith, marks_first x ns most, alike)
]

-- there are no more distinct numbers than there are numbers
marks_few : (ns : List ℕ) (most : ℕ) → marks ns most ≤ length ns
marks_few [] most = omega (arith, marks_none most)
marks_few (x ∷ ns) most = omega (arith, marks_first x ns most, marks_few ns most)

marks_others_below : (ns : List ℕ) (n most : ℕ) → most < n → marks (others n ns) most ≡ marks ns most
marks_others_below ns n zero above = refl
marks_others_below ns n (suc most) above =
    let ih = marks_others_below ns n most (omega (arith, above)) in
    let same = ap one_if (holds_others ns n (suc most) (λ same. absurd (omega (arith, above, same)))) in
    omega (arith, ih, same)

marks_others : (ns : List ℕ) (n most : ℕ) → marks ns most ≤ marks (others n ns) most + 1
marks_others ns n zero = omega arith
marks_others ns n (suc most) = elim (cases_eq n (suc most)) [
  | inl same ↦ omega (arith, marks_others_below ns n most (omega (arith, same)), one_few (holds (suc most) ns))
  | inr other ↦
      let alike = ap one_if (holds_others ns n (suc most) other) in
      omega (arith, marks_others ns n most, alike)
]

once_others : (ns : List ℕ) (n most : ℕ) → holds n ns ≡ true → AreOnce most ns → AreOnce most (others n ns)
once_others ns n most there once =
    omega (arith, once, others_fewer ns n there, marks_few (others n ns) most, marks_others ns n most)

pub once_without : (ns : List ℕ) (n most : ℕ) → AreOnce most ns → AreOnce most (others n ns)
once_without ns n most once = by (holds n ns) refl
  where
    by : (b : Bool) → holds n ns ≡ b → AreOnce most (others n ns)
    by true there = once_others ns n most there once
    by false free = subst (AreOnce most) (sym (others_same ns n free)) once

-- ---- numbers that are among others

one_less : (a b : Bool) → (a ≡ true → b ≡ true) → one_if a ≤ one_if b
one_less true b more = (let there = ap one_if (more refl) in omega (arith, there))
one_less false b more = omega arith

marks_within : (ns ms : List ℕ) (most : ℕ) → ((m : ℕ) → holds m ns ≡ true → holds m ms ≡ true) → marks ns most ≤ marks ms most
marks_within ns ms zero within = omega arith
marks_within ns ms (suc most) within =
    omega (arith, marks_within ns ms most within, one_less (holds (suc most) ns) (holds (suc most) ms) (within (suc most)))

-- so are they with one of those
push_within : (ns ms : List ℕ) (n : ℕ) → ((m : ℕ) → holds m ns ≡ true → holds m ms ≡ true) → holds n ms ≡ true
    → (m : ℕ) → holds m (ns ++ n ∷ []) ≡ true → holds m ms ≡ true
push_within ns ms n within there m held = elim (cases_eq n m) [
  | inl same ↦ subst (λ (k : ℕ). holds k ms ≡ true) same there
  | inr other ↦ within m (sym (holds_other ns n m other) ∙ held)
]

-- what was there is there with one more
pub push_held : (ns : List ℕ) (n m : ℕ) → holds m ns ≡ true → holds m (ns ++ n ∷ []) ≡ true
push_held ns n m held = elim (cases_eq n m) [
  | inl same ↦ subst (λ (k : ℕ). holds k (ns ++ n ∷ []) ≡ true) same (holds_same ns n)
  | inr other ↦ holds_other ns n m other ∙ held
]

-- where one of the others isn't among them, they are fewer
pub fewer_than : (ns ms : List ℕ) (n most : ℕ) → 0 < n → n ≤ most → ((m : ℕ) → holds m ns ≡ true → holds m ms ≡ true)
    → holds n ns ≡ false → holds n ms ≡ true → AreOnce most ns → length ns < length ms
fewer_than ns ms n most some inside within free there once =
    omega (
      arith,
      length_push ns n,
      once_push ns n most some inside free once,
      marks_within (ns ++ n ∷ []) ms most (push_within ns ms n within there),
      marks_few ms most,
    )
