use Rattle.lock_table.specs.Facts.{held_by}
use Rattle.access_slots.specs.Locks.{mode_in}
use Rattle.access_slots.specs.Held.{Compatible}
use Rattle.lock_table.proofs.Keeping.{not_busy}
use Rattle.lock_table.proofs.table.LockTable.grant.Goals as goal

pub claim-requires-clause-free : goal.claim-requires-clause-free
claim-requires-clause-free c =
    not_busy c.busy.result (Compatible (held_by c.args.self.now) (mode_in c.args.set.now)) c.in_default.is c.busy.ensures.none
