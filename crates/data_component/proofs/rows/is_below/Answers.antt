use Rattle.std.proofs.Common.{sym}
use Rattle.data_component.proofs.Rising.{first_below}
use Rattle.data_component.proofs.rows.is_below.Goals as goal

pub returns-in-Some : goal.returns-in-Some
returns-in-Some c sorted =
    rw c.is_less.ensures (first_below c.args.row.now.0 c.args.rows.now c.in-Some.next.now (sym c.in-Some.ensures.value) sorted)
