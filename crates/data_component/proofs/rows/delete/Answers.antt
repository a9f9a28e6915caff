use Rattle.std.proofs.Common.{subst}
use Rattle.data_component.specs.Sorted.{Rows, IsFoundAt}
use Rattle.data_component.proofs.Changing.{delete_done}
use Rattle.data_component.proofs.rows.delete.Goals as goal

pub returns-in-Ok-clause-performs : goal.returns-in-Ok-clause-performs
returns-in-Ok-clause-performs c = λ has_room.
    let at = subst (λ (rows : Rows). IsFoundAt rows c.args.«record».now c.in-Ok.place) c.as_slice.ensures.value c.in-Ok.ensures.ok in
    delete_done has_room c.args.rows.now.items c.remove.new.self.items c.args.«record».now c.remove.result c.in-Ok.place at c.requires c.remove.ensures.value c.remove.ensures.items
