-- What a data component keeps beside the list: rows, and the places of the numbers above the mark.
use Rattle.std.specs.Prelude.{◌≡◌, ℕ, ◌<◌, ◌≤◌, List, length, reverse, slice_get, Option, Some, None}
use Rattle.access_slots.specs.declared.slot.Record.{Record}
use Rattle.access_slots.specs.declared.op.Said.{Said}
use Rattle.data_component.specs.Performed.{Performed, value_in, count, said_under, IsRight}
use Rattle.data_component.specs.Sorted.{Rows, row_of, SortedRows, Kept, place_of, SortedKept}

-- the rows are what the list says of each record, behind the rows with which it began
pub record AreRowsOf (rows base : Rows) (list : List Performed) : Type 0 where
  pub sorted : SortedRows rows
  pub values : (r : Record) → row_of rows r ≡ value_in base list r
  pub count : length rows ≡ count base list

abbrev pub said_by : Option Performed → Option Said
said_by None = None
said_by (Some e) = Some e.2

-- what was said at this place, the oldest at 0
abbrev pub said_in : List Performed → Option ℕ → Option Said
said_in performed None = None
said_in performed (Some place) = said_by (slice_get performed place)

abbrev pub AllBelow : ℕ → Kept → Type 0
AllBelow n kept = (m place : ℕ) → place_of kept m ≡ Some place → place < n

-- a number above the mark is found where it was performed
pub record AreKept (kept : Kept) (mark : ℕ) (performed : List Performed) : Type 0 where
  pub sorted : SortedKept kept
  pub within : AllBelow (length performed) kept
  pub few : length kept ≤ length performed
  pub found : (n : ℕ) → mark < n → said_in performed (place_of kept n) ≡ said_under (reverse performed) n

pub record Keeps (table base : Rows) (performed : List Performed) (index : Kept) (mark limit ops : ℕ) : Type 0 where
  pub right : IsRight limit base (reverse performed)
  pub begins : SortedRows base
  pub fits : length base ≤ limit
  pub rows : AreRowsOf table base (reverse performed)
  pub kept : AreKept index mark performed
  pub few : length performed ≤ ops
