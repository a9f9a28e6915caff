use Rattle.std.proofs.Common.{◌∙◌, ap, not}
use Rattle.indexmap.specs.IndexMap.{get}
use Rattle.lock_table.specs.Rows.{holder, holder_eq, before_in, behind_in, before_at, behind_at}
use Rattle.lock_table.proofs.HoldLemmas.{some_none}
use Rattle.lock_table.proofs.Standing.{before_put, behind_put, alone_is}
use Rattle.lock_table.proofs.row.stand.Goals as goal

pub returns-then-is_none-2-clause-before : goal.returns-then-is_none-2-clause-before
returns-then-is_none-2-clause-before c = λ r t.
    alone_is (holder_eq (holder c.args.name.now c.args.txn) (holder r t)) c.args.between.before (before_at c.args.links.now r t) _
    (some_none c.args.between.before (c.is_none.ensures ∙ ap not c.if-is_none.true)) (c.part.ensures.before r t)

pub returns-then-is_none-2-clause-behind : goal.returns-then-is_none-2-clause-behind
returns-then-is_none-2-clause-behind c = λ r t.
    alone_is (holder_eq (holder c.args.name.now c.args.txn) (holder r t)) c.args.between.behind (behind_at c.args.links.now r t) _
    (some_none c.args.between.behind (c.is_none-then-is_none.ensures ∙ ap not c.if-is_none-2.true)) (c.part.ensures.behind r t)

pub returns-clause-before : goal.returns-clause-before
returns-clause-before c = λ r t.
    ap before_in (c.in-Ok.ensures.updates.0 (holder r t))
    ∙ before_put (holder_eq (holder c.args.name.now c.args.txn) (holder r t)) c.args.between (get holder_eq c.args.links.now (holder r t))

pub returns-clause-behind : goal.returns-clause-behind
returns-clause-behind c = λ r t.
    ap behind_in (c.in-Ok.ensures.updates.0 (holder r t))
    ∙ behind_put (holder_eq (holder c.args.name.now c.args.txn) (holder r t)) c.args.between (get holder_eq c.args.links.now (holder r t))
