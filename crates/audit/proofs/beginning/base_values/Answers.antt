use Rattle.std.proofs.Common.{◌∙◌, ap}
use Rattle.indexmap.specs.IndexMap.{get}
use Rattle.access_slots.specs.Locks.{record_eq}
use Rattle.data_component.specs.Sorted.{Rows}
use Rattle.audit.specs.Joining.Based.{or_value, rows_here}
use Rattle.audit.proofs.GivenLemmas.{read_at}
use Rattle.audit.proofs.BeginningLemmas.{based_more, based_all}
use Rattle.audit.proofs.beginning.base_values.Goals as goal

pub loop-number-preserved : goal.loop-number-preserved
loop-number-preserved c =
    let dcs = c.args.dcs.now in
    let k = c.loop-number.number in
    let cur = get record_eq c.loop-number.values in
    based_more dcs k c.index-dcs-number.result cur (get record_eq c.put_rows.new.values)
    (read_at dcs k c.index-dcs-number.result c.loop-number-test.true c.index-dcs-number.is) c.loop-number.invariant
    (λ r. c.in_ok-put_rows.ensures r ∙ ap (λ (rows : Rows). or_value (cur r) (rows_here k rows r)) c.base.ensures.rows)

pub returns : goal.returns
returns c = based_all c.args.dcs.now c.loop-number.number (get record_eq c.loop-number.values) c.loop-number-test.false c.loop-number.invariant
