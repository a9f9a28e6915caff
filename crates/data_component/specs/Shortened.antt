-- A store beside one that has forgotten some of its oldest operations.
use Rattle.std.specs.Prelude.{◌≡◌, ℕ, ◌≤◌, true, List, ◌++◌, length}
use Rattle.access_slots.specs.declared.slot.Record.{Record}
use Rattle.data_component.specs.Performed.{Performed, value_in, count, all_at_most}
use Rattle.data_component.specs.Sorted.{Rows, row_of}
use Rattle.data_component.specs.Store.{Store}

-- the store with further, older operations behind other rows with which it begins
abbrev pub lengthened : Store → Rows → ℕ → List Performed → Store
lengthened s base base_mark dropped = record s { base = base; base_mark = base_mark; list = s.list ++ dropped; saved = s.saved ++ dropped }

-- the short one is the long one, but that its list begins with the rows that the oldest operations left, of which each had a number at
-- or under the mark of the last checkpoint, which kept them
pub record IsShortOf (long short : Store) : Type 0 where
  pub base : Rows
  pub base_mark : ℕ
  pub dropped : List Performed
  pub is : long ≡ lengthened short base base_mark dropped
  pub values : (r : Record) → row_of short.base r ≡ value_in base dropped r
  pub count : length short.base ≡ count base dropped
  pub old : all_at_most short.saved_mark dropped ≡ true
  pub low : short.saved_mark ≤ short.mark
