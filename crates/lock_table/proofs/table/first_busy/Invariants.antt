use Rattle.std.proofs.Common.{◌≡◌, ℕ, drop}
use Rattle.access_slots.specs.declared.slot.Record.{Record}
use Rattle.access_slots.specs.Held.{in_the_way}
use Rattle.access_slots.specs.Locks.{mode_in, Rising}
use Rattle.lock_table.specs.Facts.{held_by}
use Rattle.lock_table.proofs.table.first_busy.Given as goal

-- who stands in the way does so at a lock that is left
abbrev pub invariant-loop-lock : goal.invariant-loop-lock
invariant-loop-lock l = record {
  rising : Rising (drop l.lock-index l.locks);
  left : (r : Record) (t : ℕ) → in_the_way (held_by l.table) (mode_in l.locks) r t ≡ in_the_way (held_by l.table) (mode_in (drop l.lock-index l.locks)) r t;
}
