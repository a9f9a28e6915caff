use Rattle.std.proofs.Common.{◌∙◌}
use Rattle.lock_table.specs.Rows.{behind_at}
use Rattle.lock_table.proofs.Standing.{put_back}
use Rattle.lock_table.proofs.row.precede.Goals as goal

pub returns-in-Some-clause-behind : goal.returns-in-Some-clause-behind
returns-in-Some-clause-behind c = λ r t.
    c.stand.ensures.behind r t ∙ put_back (behind_at c.args.links.now) c.args.name.now r c.in-Some.txn t _ c.beside-behind.ensures.behind
