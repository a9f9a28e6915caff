use Rattle.std.proofs.Common.{◌≡◌, take}
use Rattle.indexmap.specs.IndexMap.{get}
use Rattle.access_slots.specs.declared.slot.Record.{Record}
use Rattle.access_slots.specs.Locks.{record_eq}
use Rattle.audit.specs.Joining.Based.{or_value, rows_here}
use Rattle.audit.proofs.beginning.put_rows.Given as goal

abbrev pub invariant-loop-row : goal.invariant-loop-row
invariant-loop-row l = (r : Record) → get record_eq l.values r ≡ or_value (get record_eq l.fn.values r) (rows_here l.dc (take l.row-index l.rows) r)
