use Rattle.std.proofs.Common.{◌≡◌, drop}
use Rattle.access_slots.specs.Locks.{mode_in}
use Rattle.lock_table.proofs.held.mode_in.Given as goal

abbrev pub invariant-loop-lock : goal.invariant-loop-lock
invariant-loop-lock l = mode_in (drop l.lock-index l.locks) l.name ≡ mode_in l.locks l.name
