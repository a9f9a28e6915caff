-- What is of one partition, and all parts together.
use Rattle.std.specs.Prelude.{◌≡◌, ◌==◌, Bool, true, false, ℕ, ◌<◌, if◌then◌else◌, List, [], ◌∷◌, length, count_by, All, Some, slice_get}
use Rattle.std.specs.Global.{Vec}

-- of items whose partitions have these numbers, those of one partition, in their order
abbrev pub picked : {X : Type 0} → ℕ → List ℕ → List X → List X
picked partition [] items = []
picked partition (number ∷ numbers) [] = []
picked partition (number ∷ numbers) (item ∷ items) =
    if number == partition then item ∷ picked partition numbers items else picked partition numbers items

-- one item, where it is of the partition
abbrev pub own_item : {X : Type 0} → Bool → X → List X
own_item true item = item ∷ []
own_item false item = []

-- each number has a part, of as many items as that number stands there
pub record FitsParts {X : Type 0} (numbers : List ℕ) (parts : List (Vec X)) : Type 0 where
  pub within : All (λ (number : ℕ). number < length parts) numbers
  pub as_many : (partition : ℕ) (part : Vec X) → slice_get parts partition ≡ Some part
      → length part.items ≡ count_by (λ (number : ℕ). number == partition) numbers

-- these are the items of all parts: those of a part stand where its number does
pub record IsMerged {X : Type 0} (numbers : List ℕ) (parts : List (Vec X)) (all : List X) : Type 0 where
  pub each : length all ≡ length numbers
  pub own : (partition : ℕ) (part : Vec X) → slice_get parts partition ≡ Some part → picked partition numbers all ≡ part.items
