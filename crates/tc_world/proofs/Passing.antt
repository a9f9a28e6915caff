-- What was sent before the log began: data components take a wire as old, and nobody heeds a reply.
use Rattle.std.proofs.Common.{◌≡◌, ℕ, zero, suc, ◌<◌, ◌≤◌, Bool, true, false, List, [], ◌∷◌, ◌++◌}
use Rattle.std.proofs.Common.{Some, arith, refl, sym, ◌∙◌, ap, subst, inl, inr, ◌==◌, if◌then◌else◌}
use Rattle.std.specs.Prelude.{slice_get, slice_set, nat_lt, nat_le}
use Rattle.std.proofs.lemmas.Bool.{cases_lt, cond-true, cond-false, leb-true, le-leb}
use Rattle.std.proofs.lemmas.Bool.Decides.{nat_tests}
use Rattle.access_slots.specs.declared.op.Wire.{Wire}
use Rattle.data_component.specs.Performed.{said_under}
use Rattle.data_component.specs.Store.{Store, IsOld, raised, marked, fate_above, fate_of, store_by, performed}
use Rattle.transactions.proofs.StandingLemmas.{some_same, none_some}
use Rattle.tc_world.specs.Joining.Listed.{BeginsBehind, above}

-- ---- the elements with numbers above one

lt_is : (a b : ℕ) → a < b → nat_lt a b ≡ true
lt_is a b less = grind (arith, nat_tests)

lt_not : (a b : ℕ) → b ≤ a → nat_lt a b ≡ false
lt_not a b le = grind (arith, nat_tests)

-- an element that stands at a place, and its number is above this one
pub record Later {X : Type 0} (number : X → ℕ) (n : ℕ) (xs : List X) (x : X) : Type 0 where
  pub above : n < number x
  pub place : ℕ
  pub at : slice_get xs place ≡ Some x

module _ {X : Type 0} (number : X → ℕ) (n : ℕ) where
  taken : (y : X) (xs : List X) → n < number y → above number n (y ∷ xs) ≡ y ∷ above number n xs
  taken y xs up = cond-true (nat_lt n (number y)) (y ∷ above number n xs) (above number n xs) (lt_is n (number y) up)

  passed : (y : X) (xs : List X) → number y ≤ n → above number n (y ∷ xs) ≡ above number n xs
  passed y xs low = cond-false (nat_lt n (number y)) (y ∷ above number n xs) (above number n xs) (lt_not n (number y) low)

  pub above_in : (xs : List X) (k : ℕ) (x : X) → slice_get xs k ≡ Some x → n < number x → (j : ℕ) × (slice_get (above number n xs) j ≡ Some x)
  above_in [] k x at up = absurd (none_some _ x refl at)
  above_in (y ∷ xs) zero x at up =
      let same : y ≡ x = some_same y x at in
      let up' : n < number y = subst (λ (z : X). n < number z) (sym same) up in
      (0, ap (λ (l : List X). slice_get l 0) (taken y xs up') ∙ at)
  above_in (y ∷ xs) (suc k) x at up =
      let ih = above_in xs k x at up in
      elim (cases_lt n (number y)) [
        | inl more ↦ (suc ih.0, ap (λ (l : List X). slice_get l (suc ih.0)) (taken y xs more) ∙ ih.1)
        | inr low ↦ (ih.0, ap (λ (l : List X). slice_get l ih.0) (passed y xs low) ∙ ih.1)
      ]

  one_later : (y : X) (xs : List X) (x : X) → Later number n xs x → Later number n (y ∷ xs) x
  one_later y xs x is = record { above = is.above; place = suc is.place; at = is.at }

  first_later : (y : X) (xs : List X) (x : X) → n < number y → ((j : ℕ) → slice_get (above number n xs) j ≡ Some x → Later number n xs x)
      → (k : ℕ) → slice_get (y ∷ above number n xs) k ≡ Some x → Later number n (y ∷ xs) x
  first_later y xs x up rest zero at = record { above = subst (λ (z : X). n < number z) (some_same y x at) up; place = 0; at = at }
  first_later y xs x up rest (suc k) at = one_later y xs x (rest k at)

  pub above_from : (xs : List X) (k : ℕ) (x : X) → slice_get (above number n xs) k ≡ Some x → Later number n xs x
  above_from [] k x at = absurd (none_some _ x refl at)
  above_from (y ∷ xs) k x at = elim (cases_lt n (number y)) [
    | inl more ↦ first_later y xs x more (λ j there. above_from xs j x there) k (ap (λ (l : List X). slice_get l k) (sym (taken y xs more)) ∙ at)
    | inr low ↦ one_later y xs x (above_from xs k x (ap (λ (l : List X). slice_get l k) (sym (passed y xs low)) ∙ at))
  ]

  pub above_more : (xs : List X) (x : X) → n < number x → above number n (xs ++ x ∷ []) ≡ above number n xs ++ x ∷ []
  above_more [] x up = taken x [] up
  above_more (y ∷ xs) x up =
      let ih = above_more xs x up in
      elim (cases_lt n (number y)) [
        | inl more ↦ taken y (xs ++ x ∷ []) more ∙ (ap (λ (l : List X). y ∷ l) ih ∙ ap (λ (l : List X). l ++ x ∷ []) (sym (taken y xs more)))
        | inr low ↦ passed y (xs ++ x ∷ []) low ∙ (ih ∙ ap (λ (l : List X). l ++ x ∷ []) (sym (passed y xs low)))
      ]

  pub above_same : (xs : List X) (x : X) → number x ≤ n → above number n (xs ++ x ∷ []) ≡ above number n xs
  above_same [] x low = passed x [] low
  above_same (y ∷ xs) x low =
      let ih = above_same xs x low in
      elim (cases_lt n (number y)) [
        | inl more ↦ taken y (xs ++ x ∷ []) more ∙ (ap (λ (l : List X). y ∷ l) ih ∙ sym (taken y xs more))
        | inr few ↦ passed y (xs ++ x ∷ []) few ∙ (ih ∙ sym (passed y xs few))
      ]

  pub none_above : (xs : List X) → xs ≡ [] → above number n xs ≡ []
  none_above xs is = ap (above number n) is

-- ---- one element more

pub pushed : {X : Type 0} (P : X → Type 0) (xs : List X) (y : X) → ((k : ℕ) (x : X) → slice_get xs k ≡ Some x → P x) → P y
    → (k : ℕ) (x : X) → slice_get (xs ++ y ∷ []) k ≡ Some x → P x
pushed P [] y all last zero x at = subst P (some_same y x at) last
pushed P [] y all last (suc k) x at = absurd (none_some _ x refl at)
pushed P (z ∷ xs) y all last zero x at = all zero x at
pushed P (z ∷ xs) y all last (suc k) x at = pushed P xs y (λ i u. all (suc i) u) last k x at

-- ---- a wire of a number from before the log began

same_mark : (b mark low : ℕ) → b ≤ mark → low ≤ b → raised mark low ≡ mark
same_mark b mark low up few = by (nat_le mark low) refl
  where
    by : (t : Bool) → nat_le mark low ≡ t → (if t then low else mark) ≡ mark
    by true is = (let le = leb-true mark low is in omega (arith, le, up, few))
    by false is = refl

module _ (b : ℕ) (s : Store) (x : Wire) (behind : BeginsBehind b s) (old : x.number ≤ b) (low : x.low_water ≤ b) where
  marked_same : marked s x.low_water ≡ s
  marked_same = ap (λ (m : ℕ). let t : Store = record s { mark = m } in t) (same_mark b s.mark x.low_water behind.mark low)

  is_old : fate_of s x ≡ IsOld
  is_old =
      let mark : raised s.mark x.low_water ≡ s.mark = same_mark b s.mark x.low_water behind.mark low in
      let up : b ≤ s.mark = behind.mark in
      cond-true (nat_le x.number (raised s.mark x.low_water)) IsOld
      (fate_above (said_under s.list x.number) (marked s x.low_water) x.redo x.op) (le-leb x.number (raised s.mark x.low_water) (omega (arith, old, up, mark)))

  -- it changes nothing
  pub past_performed : performed s x ≡ s
  past_performed = by (s.incarnation == x.incarnation)
    where
      by : (t : Bool) → (if t then store_by (marked s x.low_water) x.number x.op (fate_of s x) else s) ≡ s
      by true = ap (store_by (marked s x.low_water) x.number x.op) is_old ∙ marked_same
      by false = refl

-- what is there stays
pub set_back : {X : Type 0} (xs : List X) (k : ℕ) (x : X) → slice_get xs k ≡ Some x → slice_set xs k x ≡ xs
set_back [] k x at = absurd (none_some _ x refl at)
set_back (y ∷ xs) zero x at = ap (λ z. z ∷ xs) (sym (some_same y x at))
set_back (y ∷ xs) (suc k) x at = ap (λ zs. y ∷ zs) (set_back xs k x at)
