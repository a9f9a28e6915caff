use Rattle.std.proofs.Common.{◌∙◌}
use Rattle.lock_table.specs.Rows.{before_at}
use Rattle.lock_table.proofs.Standing.{put_back}
use Rattle.lock_table.proofs.row.follow.Goals as goal

pub returns-in-Some-clause-before : goal.returns-in-Some-clause-before
returns-in-Some-clause-before c = λ r t.
    c.stand.ensures.before r t ∙ put_back (before_at c.args.links.now) c.args.name.now r c.in-Some.txn t _ c.beside-before.ensures.before
