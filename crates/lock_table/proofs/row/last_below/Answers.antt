use Rattle.std.proofs.Common.{arith, subst, sym, ◌∙◌}
use Rattle.lock_table.specs.Rows.{IsPrevious}
use Rattle.lock_table.proofs.RowLemmas.{previous_here, previous_none, above_before}
use Rattle.lock_table.proofs.row.last_below.Goals as goal

pub holders-init : goal.holders-init
holders-init c = λ p row. (row.last_in, λ out u above here. absurd (omega (arith, above, row.greatest u here)))

pub holders-preserved : goal.holders-preserved
holders-preserved c = λ p row.
    let here = c.holders.invariant p row in
    let previous = subst (IsPrevious p c.holders.holder) (sym c.beside.ensures.before ∙ c.in-Some.is) (row.previous c.holders.holder here.0) in
    (previous.1, λ out. above_before p c.args.txn c.holders.holder c.in-Some.before c.holders-test.true here.0 out (here.1 out) previous)

pub returns-in-None : goal.returns-in-None
returns-in-None c = λ p row out.
    let here = c.holders.invariant p row in
    let previous = subst (IsPrevious p c.holders.holder) (sym c.beside.ensures.before ∙ c.in-None.is) (row.previous c.holders.holder here.0) in
    previous_none p c.args.txn c.holders.holder c.holders-test.true previous

pub returns : goal.returns
returns c = λ p row out.
    let here = c.holders.invariant p row in
    previous_here p c.args.txn c.holders.holder c.holders-test.false here.0 (here.1 out)
