-- Data components that begin with the records with which a log begins that was cut.
use Rattle.std.specs.Prelude.{◌≡◌, ℕ, ◌<◌, ◌≤◌, ◌==◌, List, [], ◌∷◌, length, count_by, Option, Some, None, slice_get}
use Rattle.tc_log.specs.declared.event.Event.{Event}
use Rattle.tc_log.specs.declared.event.Event.TheVariants.{Checkpoint}
use Rattle.access_slots.specs.declared.slot.Record.{Record}
use Rattle.data_component.specs.Sorted.{Rows}
use Rattle.data_component.specs.Store.{Store}
use Rattle.data_component.specs.Beginning.{AreBegun}
use Rattle.base_records.specs.declared.beginning.BaseFault.{BaseFault}
use Rattle.base_records.specs.declared.beginning.BaseFault.TheVariants.{NoDc, NoRoom}

-- how many numbers were given out before events, the oldest first, that begin with a checkpoint
abbrev pub first_given : List Event → ℕ
first_given [] = 0
first_given (Checkpoint admissions numbers ∷ events) = numbers
first_given (other ∷ events) = 0

-- the data components begin with these records, behind the numbers before the log's checkpoint; where the log begins at the beginning they
-- are as they were
abbrev pub HaveBegun : Option Rows → List Event → List Store → List Store → Type 0
HaveBegun None events empties dcs = dcs ≡ empties
HaveBegun (Some rows) events empties dcs = AreBegun rows (first_given events) empties dcs

-- ---- why they don't

-- how many of the records are of data component d
abbrev pub own_count : ℕ → Rows → ℕ
own_count d rows = count_by (λ row. row.0.dc == d) rows

-- the first record that is of none of so many data components is of d
pub record IsFirstOfNone (rows : Rows) (count d : ℕ) : Type 0 where
  pub place : ℕ
  pub row : Record × List ℕ
  pub at : slice_get rows place ≡ Some row
  pub of : row.0.dc ≡ d
  pub beyond : count ≤ d
  pub before : (k : ℕ) (x : Record × List ℕ) → k < place → slice_get rows k ≡ Some x → x.0.dc < count

-- there are more records of data component d than it has room for
pub record IsCrowded (rows : Rows) (dcs : List Store) (d : ℕ) : Type 0 where
  pub s : Store
  pub at : slice_get dcs d ≡ Some s
  pub more : s.rows < own_count d rows

pub record IsFirstCrowded (rows : Rows) (dcs : List Store) (d : ℕ) : Type 0 where
  pub crowded : IsCrowded rows dcs d
  pub before : (k : ℕ) → k < d → IsCrowded rows dcs k → ⊥

abbrev pub IsBaseFault : Rows → List Store → BaseFault → Type 0
IsBaseFault rows dcs (NoDc d) = IsFirstOfNone rows (length dcs) d
IsBaseFault rows dcs (NoRoom d) = IsFirstCrowded rows dcs d

abbrev pub IsUnbegun : Option Rows → List Store → BaseFault → Type 0
IsUnbegun None dcs fault = ⊥
IsUnbegun (Some rows) dcs fault = IsBaseFault rows dcs fault
