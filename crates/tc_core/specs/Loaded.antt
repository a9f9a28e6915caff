-- The loaded procedures, by their numbers from 0 on, and why one more isn't loaded.
use Rattle.std.specs.Prelude.{◌≡◌, ℕ, not, nat_lt, position, List, Option, Some, None, slice_get}
use Rattle.std.specs.Str.{bytes_eq}
use Rattle.access_slots.specs.declared.slot.Slot.{Slot}
use Rattle.verifier.specs.Checked.{Checked}

-- for so many data components: the procedures, and their names as text
pub record Loaded : Type 0 where
  pub dcs : ℕ
  pub codes : List Checked
  pub names : List (List ℕ)

-- the number of the procedure with this name
abbrev pub number_of : List ℕ → List (List ℕ) → Option ℕ
number_of name names = position (bytes_eq name) names

-- the first access slot that names a data component that isn't there
abbrev pub unknown_dc : ℕ → List Slot → Option ℕ
unknown_dc dcs slots = position (λ (s : Slot). not (nat_lt s.dc dcs)) slots

-- each slot of each procedure names a data component that is there
abbrev pub AllReach : ℕ → List Checked → Type 0
AllReach dcs codes = (p : ℕ) (q : Checked) → slice_get codes p ≡ Some q → unknown_dc dcs q.decl.slots ≡ None
