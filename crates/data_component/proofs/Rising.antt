-- Rows that rise, looked at two by two.
use Rattle.std.proofs.Common.{◌≡◌, ℕ, ◌↔◌, Bool, true, false, List, [], ◌∷◌, sym, ◌∙◌, ap}
use Rattle.std.specs.Prelude.{IsTrue, Some, slice_get}
use Rattle.std.proofs.lemmas.Option.{same_Some, none-some}
use Rattle.access_slots.specs.declared.slot.Record.{Record}
use Rattle.access_slots.specs.Locks.{record_eq, record_less}
use Rattle.data_component.specs.Sorted.{Rows, AllAbove, SortedRows}
use Rattle.data_component.proofs.Finding.{lower}
use Rattle.data_component.proofs.Orders.{records}

-- a record below the first of rows that rise is below all
pub first_below : (r : Record) (rows : Rows) (next : Record × List ℕ) → slice_get rows 0 ≡ Some next → SortedRows rows
    → IsTrue (record_less r next.0) ↔ AllAbove record_less r rows
first_below r [] next is sorted = absurd (none-some next is)
first_below r (row ∷ rows) next is sorted =
    let same = same_Some row next is in (
      λ below. let first : record_less r row.0 ≡ true = ap (λ (x : Record × List ℕ). record_less r x.0) same ∙ below in
          (first, lower record_eq record_less records r row.0 rows first sorted.0),
      λ all. ap (λ (x : Record × List ℕ). record_less r x.0) (sym same) ∙ all.0,
    )
