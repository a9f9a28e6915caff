-- Laws of lists in which one element is written.
use Rattle.std.proofs.Common.{◌≡◌, ◌≢◌, ℕ, zero, suc, ◌+◌, List, [], ◌∷◌, ◌⊎◌, Bool, length, refl, ap}
use Rattle.std.proofs.Common.{subst, inl, inr, arith, Some, cond, map}
use Rattle.std.proofs.Math.ListN.{set}
use Rattle.std.proofs.lemmas.Option.{slice_get_within, get_or_from_slice_get}
use Rattle.std.proofs.lemmas.List.Sums.{sum_by-set}
use Rattle.std.specs.List.{slice_get, count_by}

-- what stands in a list after a write: what was written, or what stood there
pub get_set : {X : Type 0} (xs : List X) (k i : ℕ) (y x : X) → slice_get (set xs k y) i ≡ Some x
    → ((i ≡ k) × (y ≡ x)) ⊎ ((i ≢ k) × (slice_get xs i ≡ Some x))
get_set [] k i y x at = inr (cc, at)
get_set (a ∷ xs) zero zero y x at = inl (refl, cc)
get_set (a ∷ xs) zero (suc i) y x at = inr (λ e. absurd (omega arith), at)
get_set (a ∷ xs) (suc k) zero y x at = inr (λ e. absurd (omega arith), at)
get_set (a ∷ xs) (suc k) (suc i) y x at =
    elim (get_set xs k i y x at) [
      | inl p ↦ inl (ap suc p.0, p.1)
      | inr p ↦ inr (λ e. p.0 (omega arith), p.1)
    ]

pub set_here : {X : Type 0} (xs : List X) (k : ℕ) (x y : X) → slice_get xs k ≡ Some x → slice_get (set xs k y) k ≡ Some y
set_here [] k x y at = cc
set_here (a ∷ xs) zero x y at = refl
set_here (a ∷ xs) (suc k) x y at = set_here xs k x y at

pub set_other : {X : Type 0} (xs : List X) (k i : ℕ) (y : X) → i ≢ k → slice_get (set xs k y) i ≡ slice_get xs i
set_other [] k i y ne = refl
set_other (a ∷ xs) zero zero y ne = absurd (ne refl)
set_other (a ∷ xs) zero (suc i) y ne = refl
set_other (a ∷ xs) (suc k) zero y ne = refl
set_other (a ∷ xs) (suc k) (suc i) y ne = set_other xs k i y (λ e. ne (ap suc e))

pub length_set : {X : Type 0} (xs : List X) (k : ℕ) (y : X) → length (set xs k y) ≡ length xs
length_set [] k y = refl
length_set (a ∷ xs) zero y = refl
length_set (a ∷ xs) (suc k) y = ap suc (length_set xs k y)

pub count_set : {X : Type 0} (p : X → Bool) (xs : List X) (k : ℕ) (x y : X) → slice_get xs k ≡ Some x
    → count_by p (set xs k y) + cond (p x) 1 0 ≡ count_by p xs + cond (p y) 1 0
count_set p xs k x y at =
    let is = get_or_from_slice_get xs k x x at in
    let lt = slice_get_within xs k x at in
    subst (λ z. count_by p (set xs k y) + cond (p z) 1 0 ≡ count_by p xs + cond (p y) 1 0) is
    (sum_by-set (λ z. cond (p z) 1 0) xs k y x lt)

pub get_map : {X Y : Type 0} (f : X → Y) (xs : List X) (k : ℕ) (y : Y) → slice_get (map f xs) k ≡ Some y
    → (x : X) × (slice_get xs k ≡ Some x) × (f x ≡ y)
get_map f [] k y at = cc
get_map f (x ∷ xs) zero y at = (x, refl, cc)
get_map f (x ∷ xs) (suc k) y at = get_map f xs k y at

pub map_get : {X Y : Type 0} (f : X → Y) (xs : List X) (k : ℕ) (x : X) → slice_get xs k ≡ Some x → slice_get (map f xs) k ≡ Some (f x)
map_get f [] k x at = cc
map_get f (y ∷ xs) zero x at = let same : y ≡ x = cc in ap (λ z. Some (f z)) same
map_get f (y ∷ xs) (suc k) x at = map_get f xs k x at
