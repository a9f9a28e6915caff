use Rattle.lock_table.specs.Facts.{held_by, HoldsNothing}
use Rattle.bench.proofs.locks.take_and_release.Given as goal

abbrev pub invariant-times : goal.invariant-times
invariant-times l = HoldsNothing (held_by l.table) l.held
