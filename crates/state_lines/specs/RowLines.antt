-- What data components keep, a line for each record.
use Rattle.std.specs.Prelude.{◌≡◌, ℕ, List, [], ◌∷◌, ◌++◌, codes}
use Rattle.std.specs.List.{flat_map}
use Rattle.access_slots.specs.declared.slot.Record.{Record}
use Rattle.data_component.specs.Store.{Store}
use Rattle.data_component.specs.Sorted.{Rows}
use Rattle.data_component.specs.Keeping.{AreRowsOf}
use Rattle.state_lines.specs.RecordTexts.{record_text, value_text}

abbrev pub row_line : Record × List ℕ → List ℕ
row_line row = codes "row " ++ (record_text row.0 ++ (codes " " ++ (value_text row.1 ++ codes "\n")))

abbrev pub row_lines : Rows → List ℕ
row_lines rows = flat_map row_line rows

-- the rows of one data component after another
abbrev pub AreRowLines : List Store → List ℕ → Type 0
AreRowLines [] lines = lines ≡ []
AreRowLines (d ∷ ds) lines =
    (rows : Rows) × (rest : List ℕ) × AreRowsOf rows d.base d.list × (lines ≡ row_lines rows ++ rest) × AreRowLines ds rest

pub record AddsRowLines (ds : List Store) (old new : List ℕ) : Type 0 where
  pub lines : List ℕ
  pub rows : AreRowLines ds lines
  pub added : new ≡ old ++ lines
