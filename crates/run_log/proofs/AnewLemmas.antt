-- The rows of data components, one behind another.
use Rattle.std.proofs.Common.{◌∙◌, ◌++◌, List, [], ◌∷◌, refl, sym, ap}
use Rattle.std.proofs.lemmas.List.{append_assoc, append-nil}
use Rattle.data_component.specs.Sorted.{Rows}
use Rattle.data_component.specs.Keeping.{AreRowsOf}
use Rattle.data_component.specs.Store.{Store}
use Rattle.run_log.specs.Anew.{AreAllRows}

-- those of one more
pub rows_push : (dcs : List Store) (s : Store) (rows own : Rows) → AreAllRows dcs rows → AreRowsOf own s.base s.list
    → AreAllRows (dcs ++ s ∷ []) (rows ++ own)
rows_push [] s rows own none of = (own, [], ap (λ (l : Rows). l ++ own) none ∙ sym (append-nil own), of, refl)
rows_push (d ∷ dcs) s rows own are of =
    (are.0, are.1 ++ own, ap (λ (l : Rows). l ++ own) are.2 ∙ append_assoc are.0 are.1 own, are.3, rows_push dcs s are.1 own are.4 of)
