use Rattle.std.proofs.Common.{arith, ◌∙◌, ap}
use Rattle.data_component.specs.Performed.{all_at_most}
use Rattle.tc_world.proofs.CutLemmas.{can_by}
use Rattle.tc_world.proofs.cutting.can_forget.Goals as goal

pub returns-then-rows-row_limit : goal.returns-then-rows-row_limit
returns-then-rows-row_limit c =
    let count = c.rows.ensures.rows.count in
    let limit = c.row_limit.ensures in
    can_by c.args.low_water c.args.dc.now c.are_at_most.result (omega (arith, c.if-rows-row_limit.true, count, limit))
    (c.are_at_most.ensures ∙ ap (all_at_most c.args.low_water) c.performed.ensures.list)
