use Rattle.std.proofs.Common.{◌≡◌, take}
use Rattle.access_slots.proofs.lock.copy_of.Given as goal

abbrev pub invariant-locks : goal.invariant-locks
invariant-locks l = l.copy.items ≡ take l.lock-index l.locks
