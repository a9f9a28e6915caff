use Rattle.std.proofs.Common.{◌≤◌, ℕ}
use Rattle.lock_table.specs.Facts.{held_by, HoldsNothing}
use Rattle.lower_tests.proofs.lock_tests.scattered.Given as goal

-- who is still to come holds nothing
abbrev pub invariant-txns : goal.invariant-txns
invariant-txns g l = (t : ℕ) → l.txn ≤ t → HoldsNothing (held_by l.map) t
