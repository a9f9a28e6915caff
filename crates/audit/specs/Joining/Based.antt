-- Where a log begins, and rows that are put among values one after another.
use Rattle.std.specs.Prelude.{◌≡◌, ℕ, ◌==◌, ◌&&◌, if◌then◌else◌, List, length, Some, None}
use Rattle.access_slots.specs.declared.slot.Record.{Record}
use Rattle.access_slots.specs.Locks.{record_eq}
use Rattle.tc_log.specs.declared.event.Event.{Event}
use Rattle.tc_log.specs.declared.event.Event.TheVariants.{Checkpoint}
use Rattle.history.specs.Anew.{begun}
use Rattle.history.specs.Places.{Begins}
use Rattle.data_component.specs.Performed.{RecordValue}
use Rattle.data_component.specs.Sorted.{Rows, row_of}

-- behind which number the log begins, with an event more
abbrev pub begun_by : Event → ℕ → ℕ
begun_by (Checkpoint before numbers) n = numbers
begun_by _ n = n

pub record HasBegun (place : ℕ) (events : List Event) (found : ℕ) : Type 0 where
  pub before : List Event
  pub begins : Begins before events
  pub places : length before ≡ place
  pub is : found ≡ begun before

-- the first, and where there is none the second
abbrev pub or_value : RecordValue → RecordValue → RecordValue
or_value (Some v) w = Some v
or_value None w = w

-- what a row says of a record, where its own is of this data component
abbrev pub row_here : ℕ → Record × List ℕ → Record → RecordValue
row_here d row r = if (row.0.dc == d) && record_eq row.0 r then Some row.1 else None

-- what rows say of a record of this data component
abbrev pub rows_here : ℕ → Rows → Record → RecordValue
rows_here d rows r = if r.dc == d then row_of rows r else None
