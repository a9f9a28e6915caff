-- One place in a list is changed, and no other.
use Rattle.std.proofs.Common.{◌≡◌, ◌≢◌, ℕ, zero, suc, List, [], ◌∷◌, refl, ap}
use Rattle.std.specs.Prelude.{slice_get, slice_set}

pub set_other : {X : Type 0} (xs : List X) (k j : ℕ) (y : X) → j ≢ k → slice_get (slice_set xs k y) j ≡ slice_get xs j
set_other [] k j y other = refl
set_other (z ∷ xs) zero zero y other = absurd (other refl)
set_other (z ∷ xs) zero (suc j) y other = refl
set_other (z ∷ xs) (suc k) zero y other = refl
set_other (z ∷ xs) (suc k) (suc j) y other = set_other xs k j y (λ is. other (ap (λ (n : ℕ). suc n) is))
