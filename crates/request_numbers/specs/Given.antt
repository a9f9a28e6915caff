-- Numbers that were given out.
use Rattle.std.specs.Prelude.{ℕ, Bool, not, ◌==◌, ◌-◌, ◌<◌, ◌≤◌, List, [], ◌∷◌}
use Rattle.std.specs.List.{list_any, filter}

-- the last number, the open ones in order, and how many more can be open with no allocation
pub record Given : Type 0 where
  pub last : ℕ
  pub pending : List ℕ
  pub room : ℕ

-- the numbers but this one
abbrev pub others : ℕ → List ℕ → List ℕ
others n ns = filter (λ m. not (m == n)) ns

-- whether the number is among them
abbrev pub holds : ℕ → List ℕ → Bool
holds n ns = list_any (λ m. m == n) ns

-- above low, rising, and up to last
abbrev pub Rising : ℕ → ℕ → List ℕ → Type 0
Rising low last [] = low ≤ last
Rising low last (n ∷ ns) = (low < n) × Rising n last ns

-- one less than the first open number, or the last one where none is open
abbrev pub low_water_of : ℕ → List ℕ → ℕ
low_water_of last [] = last
low_water_of last (n ∷ ns) = n - 1
