use Rattle.std.proofs.Common.{rules, ◌∙◌, sym}
use Rattle.data_component.proofs.Changing.{found_there, missing_there}
use Rattle.data_component.proofs.rows.search.Goals as goal

pub returns-then-eq-clause-ok : goal.returns-then-eq-clause-ok
returns-then-eq-clause-ok c =
    found_there c.args.rows.now c.args.«record».now c.count_before-place.result _ c.requires c.count_before-place.ensures.value (search rules) (sym c.eq.ensures ∙ c.if-eq.true)

pub returns-else-eq-clause-err : goal.returns-else-eq-clause-err
returns-else-eq-clause-err c =
    missing_there c.args.rows.now c.args.«record».now c.count_before-place.result _ c.requires c.count_before-place.ensures.value (search rules) (sym c.eq.ensures ∙ c.if-eq.false)
