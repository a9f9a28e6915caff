use Rattle.std.proofs.Common.{ap, subst}
use Rattle.lock_table.specs.Clashes.{keeps_out}
use Rattle.lock_table.specs.Facts.{Sets, Table, held_in}
use Rattle.lock_table.specs.Rows.{IsLeast}
use Rattle.lock_table.proofs.maps.LockMaps.least_in_the_way.Goals as goal

pub returns : goal.returns
returns c =
    let lock = c.args.lock.now in
    subst (λ (ss : Sets). IsLeast (keeps_out (held_in ss) lock) c.least_in_the_way.result) (ap (λ (t : Table). t.sets) c.self.view_is)
    (c.least_in_the_way.ensures (λ t. held_in c.self.inside.sets.entries t lock.«record») _ _ (c.self.invariant.0.holds lock.«record»))
