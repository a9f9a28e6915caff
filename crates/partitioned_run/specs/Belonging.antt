-- Which partition a log's file belongs to.
use Rattle.std.specs.Prelude.{◌≡◌, ◌≢◌, ℕ, List, ◌++◌, take, reverse, slice_get, Option, Some, None, IfSome, All, codes, decimal}
use Rattle.access_slots.specs.Locks.{target}
use Rattle.access_slots.specs.declared.slot.Record.{Record}
use Rattle.log_file.specs.Bytes.{Rows}
use Rattle.partitions.specs.Partitions.{partition_at}
use Rattle.tc_log.specs.declared.event.Event.{Event}
use Rattle.tc_log.specs.declared.event.Event.TheVariants.{Admit, Ask, Undo}
use Rattle.verifier.specs.Checked.{Checked}
use Rattle.partitioned_run.specs.Partitioned.{partition_of_code}

-- an event is of the partition of its call's procedure, or of the data component on which its operation is, and others of none
abbrev pub partition_of_event : List ℕ → List Checked → Event → Option ℕ
partition_of_event numbers codes (Admit txn proc args) = Some (partition_of_code numbers (slice_get codes proc))
partition_of_event numbers codes (Ask txn number o) = Some (partition_at numbers (target o).dc)
partition_of_event numbers codes (Undo txn number o) = Some (partition_at numbers (target o).dc)
partition_of_event numbers codes other = None

abbrev pub IsEventOf : List ℕ → List Checked → ℕ → Event → Type 0
IsEventOf numbers codes partition event = IfSome (partition_of_event numbers codes event) (λ p. p ≡ partition)

-- all of a partition's data components and procedures
abbrev pub AreRowsOf : List ℕ → ℕ → Rows → Type 0
AreRowsOf numbers partition rows = All (λ (row : Record × List ℕ). partition_at numbers row.0.dc ≡ partition) rows

abbrev pub AreEventsOf : List ℕ → List Checked → ℕ → List Event → Type 0
AreEventsOf numbers codes partition events = All (IsEventOf numbers codes partition) events

abbrev pub IsBaseOf : List ℕ → ℕ → Option Rows → Type 0
IsBaseOf numbers partition None = Unit {0}
IsBaseOf numbers partition (Some rows) = AreRowsOf numbers partition rows

-- the records before a log are of a partition's data components, its calls of its procedures, its operations on its data components
pub record IsLogOfPartition (numbers : List ℕ) (codes : List Checked) (partition : ℕ) (base : Option Rows) (log : List Event) : Type 0 where
  pub rows : IsBaseOf numbers partition base
  pub events : AreEventsOf numbers codes partition (reverse log)

-- the first that isn't of the partition is of another
pub record IsRowOfOther (numbers : List ℕ) (partition : ℕ) (rows : Rows) (other : ℕ) : Type 0 where
  pub place : ℕ
  pub row : Record × List ℕ
  pub at : slice_get rows place ≡ Some row
  pub is : partition_at numbers row.0.dc ≡ other
  pub differs : other ≢ partition
  pub before : AreRowsOf numbers partition (take place rows)

pub record IsEventOfOther (numbers : List ℕ) (codes : List Checked) (partition : ℕ) (events : List Event) (other : ℕ) : Type 0 where
  pub place : ℕ
  pub event : Event
  pub at : slice_get events place ≡ Some event
  pub is : partition_of_event numbers codes event ≡ Some other
  pub differs : other ≢ partition
  pub before : AreEventsOf numbers codes partition (take place events)

abbrev pub IsBaseOfOther : List ℕ → ℕ → Option Rows → (other : ℕ) → Type 0
IsBaseOfOther numbers partition None other = ⊥
IsBaseOfOther numbers partition (Some rows) other = IsRowOfOther numbers partition rows other

-- so is a record, or else an event
pub data IsLogOfOther (numbers : List ℕ) (codes : List Checked) (partition : ℕ) (base : Option Rows) (log : List Event) (other : ℕ) : Type 0 where
  Based : IsBaseOfOther numbers partition base other → IsLogOfOther numbers codes partition base log other
  Logged : IsBaseOf numbers partition base → IsEventOfOther numbers codes partition (reverse log) other
      → IsLogOfOther numbers codes partition base log other

-- what it is refused by
abbrev pub other_line : ℕ → List ℕ
other_line partition = codes "refused log Other partition " ++ (decimal partition ++ codes "\n")
