use Rattle.std.proofs.Common.{◌+◌, ◌*◌, ◌≤◌, length, drop}
use Rattle.indexmap.specs.IndexMap.{spare}
use Rattle.access_slots.specs.Held.{Held, Compatible}
use Rattle.access_slots.specs.Locks.{mode_in, Rising}
use Rattle.lock_table.specs.Facts.{granted, HoldsNothing}
use Rattle.lock_table.specs.Holds.{AreHeldAs}
use Rattle.lock_table.proofs.Granting.{got, AreOf}
use Rattle.lock_table.proofs.maps.add_holders.Given as goal

-- the transaction holds the locks that aren't left
abbrev pub invariant-loop-lock : goal.invariant-loop-lock
invariant-loop-lock l = record {
  rising : Rising (drop l.lock-index l.locks);
  left : AreOf l.locks (drop l.lock-index l.locks);
  room : (length l.locks ≤ spare l.records + l.lock-index) × (3 * length l.locks ≤ spare l.links + 3 * l.lock-index);
  held : (held : Held) → AreHeldAs held l.fn.records l.fn.links → HoldsNothing held l.txn → Compatible held (mode_in l.locks)
      → AreHeldAs (granted held l.txn (got l.locks (drop l.lock-index l.locks))) l.records l.links;
}
