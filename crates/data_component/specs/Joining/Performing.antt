-- An operation performed on sorted rows.
use Rattle.std.specs.Prelude.{◌≡◌, Bool, if◌then◌else◌, length}
use Rattle.access_slots.specs.declared.slot.Record.{Record}
use Rattle.access_slots.specs.declared.op.Op.{Op}
use Rattle.access_slots.specs.declared.op.Said.{Said}
use Rattle.access_slots.specs.Locks.{record_eq, target}
use Rattle.data_component.specs.Performed.{left, counted, said_to}
use Rattle.data_component.specs.Sorted.{Rows, row_of, SortedRows}

-- these rows become those by the operation, which is answered so, where a further record has room or not
pub record Performs (has_room : Bool) (old new : Rows) (o : Op) (said : Said) : Type 0 where
  pub answer : said ≡ said_to has_room (row_of old (target o)) o
  pub values : (r : Record) → row_of new r ≡ (if record_eq (target o) r then left o said (row_of old r) else row_of old r)
  pub count : length new ≡ counted o said (length old)
  pub sorted : SortedRows new
