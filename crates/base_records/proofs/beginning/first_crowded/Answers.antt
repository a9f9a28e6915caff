use Rattle.base_records.proofs.BaseLemmas.{one_fits}
use Rattle.base_records.proofs.beginning.first_crowded.Goals as goal

pub dcs-preserved : goal.dcs-preserved
dcs-preserved c =
    let count = c.own_count.ensures.count in
    one_fits c.args.base.now c.args.dcs.now c.dcs.number c.index-dcs-number.result c.dcs.invariant c.index-dcs-number.is
    (rw (count, c.row_limit.ensures) at c.if-row_limit-own_count.false)
