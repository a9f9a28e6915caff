use Rattle.std.proofs.Common.{◌≡◌, drop}
use Rattle.access_slots.specs.Locks.{mode_in}
use Rattle.access_slots.proofs.lock.mode_in.Given as goal

abbrev pub invariant-loop-lock : goal.invariant-loop-lock
invariant-loop-lock l = mode_in (drop l.lock-index l.locks) l.«record» ≡ mode_in l.locks l.«record»
