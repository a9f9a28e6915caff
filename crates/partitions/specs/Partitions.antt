-- Partitions of data components: those that a procedure joins are of one.
use Rattle.std.specs.Prelude.{◌≡◌, ℕ, ◌<◌, ◌≤◌, List, [], ◌∷◌, length, get_or, All}
use Rattle.access_slots.specs.declared.slot.Slot.{Slot}
use Rattle.access_slots.specs.Declaration.{Declaration}

-- the number of a data component's partition, where these are the numbers of all
abbrev pub partition_at : List ℕ → ℕ → ℕ
partition_at numbers dc = get_or numbers dc 0

-- of a procedure with these slots: that of its first slot's data component, or 0 where it has no slot
abbrev pub partition_of : List ℕ → List Slot → ℕ
partition_of numbers [] = 0
partition_of numbers (slot ∷ slots) = partition_at numbers slot.dc

-- each slot names a data component of the procedure's partition
abbrev pub IsWithin : List ℕ → List Slot → Type 0
IsWithin numbers slots = All (λ (slot : Slot). partition_at numbers slot.dc ≡ partition_of numbers slots) slots

-- no procedure joins two partitions
abbrev pub Separates : List ℕ → List Declaration → Type 0
Separates numbers decls = All (λ (decl : Declaration). IsWithin numbers decl.slots) decls

-- each slot names one of so many data components
abbrev pub Reaches : ℕ → List Slot → Type 0
Reaches dcs slots = All (λ (slot : Slot). slot.dc < dcs) slots

abbrev pub AllReach : ℕ → List Declaration → Type 0
AllReach dcs decls = All (λ (decl : Declaration). Reaches dcs decl.slots) decls

-- the partitions of so many data components: no procedure joins two, and what is of one partition is of one in all partitions that none
-- joins. Each has the number of its first data component
pub record ArePartitions (dcs : ℕ) (decls : List Declaration) (numbers : List ℕ) : Type 0 where
  pub each : length numbers ≡ dcs
  pub separate : Separates numbers decls
  pub finest : (other : List ℕ) → Separates other decls → (a b : ℕ) → a < dcs → b < dcs → partition_at numbers a ≡ partition_at numbers b
      → partition_at other a ≡ partition_at other b
  pub first : (dc : ℕ) → dc < dcs
      → (partition_at numbers dc ≤ dc) × (partition_at numbers (partition_at numbers dc) ≡ partition_at numbers dc)
