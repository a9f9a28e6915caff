use Rattle.std.proofs.Common.{subst}
use Rattle.access_slots.specs.declared.op.Op.TheVariants.{Read}
use Rattle.data_component.specs.Sorted.{Rows}
use Rattle.data_component.specs.Joining.Performing.{Performs}
use Rattle.data_component.proofs.rows.perform.Goals as goal

pub returns-in-Read-clause-performs : goal.returns-in-Read-clause-performs
returns-in-Read-clause-performs c =
    rw (c.in-Read.is) (subst (λ (rows : Rows). Performs c.args.has_room rows rows (Read c.in-Read.«record») c.read.result) c.as_slice.ensures.value (c.read.ensures c.args.has_room))

pub returns-in-Update-clause-performs : goal.returns-in-Update-clause-performs
returns-in-Update-clause-performs c = rw (c.in-Update.is) (c.update.ensures.performs c.args.has_room)

pub returns-in-Delete-clause-performs : goal.returns-in-Delete-clause-performs
returns-in-Delete-clause-performs c = rw (c.in-Delete.is) (c.delete.ensures.performs c.args.has_room)
