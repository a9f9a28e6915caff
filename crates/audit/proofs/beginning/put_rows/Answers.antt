use Rattle.indexmap.specs.IndexMap.{get}
use Rattle.access_slots.specs.Locks.{record_eq}
use Rattle.audit.proofs.BeginningLemmas.{rows_more}
use Rattle.audit.proofs.beginning.put_rows.Goals as goal

pub loop-row-preserved : goal.loop-row-preserved
loop-row-preserved c =
    rows_more c.args.dc c.args.rows.now c.loop-row.row-index _ (get record_eq c.args.values.now)
    (get record_eq c.loop-row.values) (get record_eq c.put_row.new.values)
    c.loop-row-test.true c.loop-row.invariant c.in_ok-put_row.ensures
