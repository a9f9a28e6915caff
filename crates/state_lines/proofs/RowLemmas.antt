-- The lines of one data component more.
use Rattle.std.proofs.Common.{◌≡◌, ℕ, List, [], ◌∷◌, ◌++◌, refl, sym, ◌∙◌, ap}
use Rattle.std.proofs.lemmas.List.{append-nil, append_assoc}
use Rattle.data_component.specs.Store.{Store}
use Rattle.data_component.specs.Sorted.{Rows}
use Rattle.data_component.specs.Keeping.{AreRowsOf}
use Rattle.state_lines.specs.RowLines.{row_lines, AreRowLines, AddsRowLines}

rows_push : (ds : List Store) (d : Store) (lines : List ℕ) (rows : Rows) → AreRowLines ds lines
    → AreRowsOf rows d.base d.list → AreRowLines (ds ++ d ∷ []) (lines ++ row_lines rows)
rows_push [] d lines rows done is = (rows, [], is, ap (λ (ls : List ℕ). ls ++ row_lines rows) done ∙ sym (append-nil (row_lines rows)), refl)
rows_push (e ∷ ds) d lines rows done is =
    (done.0, done.1 ++ row_lines rows, done.2, ap (λ (ls : List ℕ). ls ++ row_lines rows) done.3 ∙ append_assoc (row_lines done.0) done.1 (row_lines rows), rows_push ds d done.1 rows done.4 is)

pub none_added : (lines : List ℕ) → AddsRowLines [] lines lines
none_added lines = record { lines = []; rows = refl; added = sym (append-nil lines) }

pub one_added : (ds : List Store) (d : Store) (rows : Rows) (old lines new : List ℕ) → AddsRowLines ds old lines
    → AreRowsOf rows d.base d.list → new ≡ lines ++ row_lines rows → AddsRowLines (ds ++ d ∷ []) old new
one_added ds d rows old lines new a is more = record {
  lines = a.lines ++ row_lines rows;
  rows = rows_push ds d a.lines rows a.rows is;
  added = more ∙ (ap (λ (ls : List ℕ). ls ++ row_lines rows) a.added ∙ append_assoc old a.lines (row_lines rows));
}
