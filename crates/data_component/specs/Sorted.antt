-- Pairs sorted by their first part, and what is found in them.
use Rattle.std.specs.Prelude.{◌≡◌, ℕ, ◌<◌, ◌≤◌, Bool, true, nat_lt, ◌==◌, if◌then◌else◌, List, [], ◌∷◌, length, slice_index_or, Option, Some, None}
use Rattle.std.specs.List.{prefix_len}
use Rattle.access_slots.specs.declared.slot.Record.{Record}
use Rattle.access_slots.specs.Locks.{record_eq, record_less}

-- what stands beside the first key that is equal
abbrev pub find : {K V : Type 0} → (K → K → Bool) → List (K × V) → K → Option V
find eq [] k = None
find eq (x ∷ xs) k = if eq x.0 k then Some x.1 else find eq xs k

abbrev pub AllAbove : {K V : Type 0} → (K → K → Bool) → K → List (K × V) → Type 0
AllAbove less k [] = Unit {0}
AllAbove less k (x ∷ xs) = (less k x.0 ≡ true) × AllAbove less k xs

-- each key is below all that come later
abbrev pub Sorted : {K V : Type 0} → (K → K → Bool) → List (K × V) → Type 0
Sorted less [] = Unit {0}
Sorted less (x ∷ xs) = AllAbove less x.0 xs × Sorted less xs

abbrev pub Rows : Type 0
Rows = List (Record × List ℕ)

abbrev pub row_of : Rows → Record → Option (List ℕ)
row_of rows r = find record_eq rows r

abbrev pub SortedRows : Rows → Type 0
SortedRows rows = Sorted record_less rows

-- numbers, and where they stand in the list of what was performed
abbrev pub Kept : Type 0
Kept = List (ℕ × ℕ)

abbrev pub place_of : Kept → ℕ → Option ℕ
place_of kept n = find (λ a b. a == b) kept n

abbrev pub SortedKept : Kept → Type 0
SortedKept kept = Sorted nat_lt kept

abbrev pub row_place : Rows → Record → ℕ
row_place rows r = prefix_len (λ row. record_less row.0 r) rows

-- the record's row stands at this place
pub record IsFoundAt (rows : Rows) (r : Record) (place : ℕ) : Type 0 where
  pub inside : place < length rows
  pub is : place ≡ row_place rows r
  pub value : (row : Record × List ℕ) → row_of rows r ≡ Some (slice_index_or rows place row).1

-- there is none, and this would be its place
pub record IsMissingAt (rows : Rows) (r : Record) (place : ℕ) : Type 0 where
  pub inside : place ≤ length rows
  pub is : place ≡ row_place rows r
  pub missing : row_of rows r ≡ None

abbrev pub kept_place : Kept → ℕ → ℕ
kept_place kept n = prefix_len (λ entry. nat_lt entry.0 n) kept
