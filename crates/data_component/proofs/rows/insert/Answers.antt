use Rattle.std.proofs.Common.{rules, subst}
use Rattle.data_component.specs.Sorted.{Rows, IsFoundAt, IsMissingAt}
use Rattle.data_component.proofs.Changing.{insert_duplicate, insert_done}
use Rattle.data_component.proofs.rows.insert.Goals as goal

pub returns-in-Ok-clause-performs : goal.returns-in-Ok-clause-performs
returns-in-Ok-clause-performs c =
    let at = subst (λ (rows : Rows). IsFoundAt rows c.args.«record».now c.in-Ok.field-0) c.as_slice.ensures.value c.in-Ok.ensures.ok in
    insert_duplicate c.args.has_room c.args.rows.now.items c.args.«record».now c.args.value.now c.in-Ok.field-0 at c.requires.sorted

pub returns-in-Err-2-clause-performs : goal.returns-in-Err-2-clause-performs
returns-in-Err-2-clause-performs c =
    let at = subst (λ (rows : Rows). IsMissingAt rows c.args.«record».now c.in-Err.field-0) c.as_slice.ensures.value c.in-Err.ensures.err in
    insert_done c.args.has_room c.args.rows.now.items c.put_in.new.rows.items c.args.«record».now c.args.value.now c.in-Err.field-0 at (search rules) c.requires.sorted c.put_in.ensures.items
