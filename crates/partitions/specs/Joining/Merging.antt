-- Two partitions become one, while a procedure is taken in.
use Rattle.std.specs.Prelude.{◌≡◌, ℕ, ◌==◌, ◌<◌, ◌≤◌, if◌then◌else◌, List, length, take, min, max, All}
use Rattle.access_slots.specs.declared.slot.Slot.{Slot}
use Rattle.access_slots.specs.Declaration.{Declaration}
use Rattle.partitions.specs.Partitions.{partition_at, Separates, IsWithin}

-- the number of a partition where those of two numbers become one: the lesser
abbrev pub renamed : (one other number : ℕ) → ℕ
renamed one other number = if number == max one other then min one other else number

-- so many of a procedure's slots name data components of the partition of the first; what is of one partition is of one in all partitions
-- that neither this procedure nor those before it joins
pub record AreJoined (dcs : ℕ) (decls : List Declaration) (slots : List Slot) (first count : ℕ) (numbers : List ℕ) : Type 0 where
  pub each : length numbers ≡ dcs
  pub separate : Separates numbers decls
  pub within : All (λ (slot : Slot). partition_at numbers slot.dc ≡ partition_at numbers first) (take count slots)
  pub finest : (other : List ℕ) → Separates other decls → IsWithin other slots → (a b : ℕ) → a < dcs → b < dcs
      → partition_at numbers a ≡ partition_at numbers b → partition_at other a ≡ partition_at other b
  pub lowest : (dc : ℕ) → dc < dcs
      → (partition_at numbers dc ≤ dc) × (partition_at numbers (partition_at numbers dc) ≡ partition_at numbers dc)
