use Rattle.std.proofs.Common.{subst, sym}
use Rattle.access_slots.specs.Locks.{Rising}
use Rattle.access_slots.proofs.Locking.{rising_added}
use Rattle.access_slots.proofs.lock.LockSet.add.Goals as goal

pub invariant_of-self : goal.invariant_of-self
invariant_of-self c = subst Rising (sym c.add_to.ensures) (rising_added c.args.«record» c.args.mode c.self.inside.locks.items c.self.invariant)
