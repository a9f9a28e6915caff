use Rattle.std.proofs.Common.{◌≤◌, ℕ}
use Rattle.lock_table.specs.Facts.{held_by, HoldsNothing}
use Rattle.bench.proofs.locks.hold_all.Given as goal

abbrev pub invariant-held : goal.invariant-held
invariant-held l = (t : ℕ) → l.txn ≤ t → HoldsNothing (held_by l.table) t
