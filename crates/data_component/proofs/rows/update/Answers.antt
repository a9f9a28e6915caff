use Rattle.std.proofs.Common.{subst, refl}
use Rattle.data_component.specs.Sorted.{Rows, IsFoundAt}
use Rattle.data_component.proofs.Changing.{update_put}
use Rattle.data_component.proofs.rows.update.Goals as goal

pub returns-clause-performs : goal.returns-clause-performs
returns-clause-performs c = λ has_room.
    let at = subst (λ (rows : Rows). IsFoundAt rows c.args.«record».now c.in-Ok.place) c.as_slice.ensures.value c.in-Ok.ensures.ok in
    update_put has_room c.args.rows.now.items _ c.args.«record».now c.args.value.now c.in-Ok.place c.index_mut.result.now at c.requires c.index_mut.ensures.value refl
