use Rattle.std.proofs.Common.{take, length, ◌≤◌}
use Rattle.access_slots.specs.Locks.{AreLocksOf, Rising}
use Rattle.access_slots.proofs.decl.Decl.resolve.Given as goal

abbrev pub invariant-slots : goal.invariant-slots
invariant-slots l = AreLocksOf l.args (take l.slot-index l.slot-items) l.locks × Rising l.locks × (length l.locks ≤ l.slot-index)
