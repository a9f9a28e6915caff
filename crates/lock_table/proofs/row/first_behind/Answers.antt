use Rattle.std.proofs.Common.{sym, subst}
use Rattle.lock_table.specs.Rows.{IsNext, IsPrevious}
use Rattle.lock_table.proofs.RowLemmas.{next_beyond, next_first}
use Rattle.lock_table.proofs.row.first_behind.Goals as goal

pub returns-in-Some : goal.returns-in-Some
returns-in-Some c = λ p t row out previous.
    subst (IsNext p t) (sym c.beside.ensures.behind) (next_beyond p t c.in-Some.holder _ out (subst (IsPrevious p t)
    c.in-Some.is previous) (row.next c.in-Some.holder (subst (IsPrevious p t) c.in-Some.is previous).1))

pub returns-in-None : goal.returns-in-None
returns-in-None c = λ p t row out previous. next_first p t _ _ _ _ row out (subst (IsPrevious p t) c.in-None.is previous)
