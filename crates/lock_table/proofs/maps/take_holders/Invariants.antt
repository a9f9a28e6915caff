use Rattle.std.proofs.Common.{◌≡◌, drop}
use Rattle.access_slots.specs.declared.slot.Record.{Record}
use Rattle.access_slots.specs.Held.{Held}
use Rattle.access_slots.specs.Locks.{mode_in, Rising}
use Rattle.lock_table.specs.Facts.{granted}
use Rattle.lock_table.specs.Holds.{AreHeldAs}
use Rattle.lock_table.proofs.maps.take_holders.Given as goal

-- the transaction holds the locks that are left
abbrev pub invariant-loop-lock : goal.invariant-loop-lock
invariant-loop-lock l = record {
  rising : Rising (drop l.lock-index l.locks);
  held : (held : Held) → AreHeldAs held l.fn.records l.fn.links → ((r : Record) → held l.txn r ≡ mode_in l.locks r)
      → AreHeldAs (granted held l.txn (mode_in (drop l.lock-index l.locks))) l.records l.links;
}
