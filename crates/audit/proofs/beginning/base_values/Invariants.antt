use Rattle.std.proofs.Common.{◌≡◌, ◌<◌, ◌≤◌, None}
use Rattle.indexmap.specs.IndexMap.{get}
use Rattle.access_slots.specs.declared.slot.Record.{Record}
use Rattle.access_slots.specs.Locks.{record_eq}
use Rattle.serial.specs.Audit.{base_of}
use Rattle.audit.proofs.beginning.base_values.Given as goal

abbrev pub invariant-loop-number : goal.invariant-loop-number
invariant-loop-number l =
    ((r : Record) → r.dc < l.number → get record_eq l.values r ≡ base_of l.dcs r)
    × ((r : Record) → l.number ≤ r.dc → get record_eq l.values r ≡ None)
