use Rattle.std.proofs.Common.{◌∙◌, ap}
use Rattle.indexmap.specs.IndexMap.{get}
use Rattle.lock_table.specs.Rows.{holder, holder_eq, before_in, behind_in}
use Rattle.lock_table.proofs.Standing.{before_gone, behind_gone}
use Rattle.lock_table.proofs.row.part.Goals as goal

pub returns-clause-before : goal.returns-clause-before
returns-clause-before c = λ r t.
    ap before_in (c.swap_remove.ensures.updates.0 (holder r t))
    ∙ before_gone (holder_eq (holder c.args.name.now c.args.txn) (holder r t)) (get holder_eq c.args.links.now (holder r t))

pub returns-clause-behind : goal.returns-clause-behind
returns-clause-behind c = λ r t.
    ap behind_in (c.swap_remove.ensures.updates.0 (holder r t))
    ∙ behind_gone (holder_eq (holder c.args.name.now c.args.txn) (holder r t)) (get holder_eq c.args.links.now (holder r t))
