use Rattle.std.proofs.Common.{◌≡◌, ◌-◌, ◌+◌, ◌*◌, ◌++◌, length}
use Rattle.log_file.specs.Reading.{AreRows}
use Rattle.log_file.specs.Joining.Fields.{rows_in}
use Rattle.log_file.proofs.base.rows_in.Given as goal

abbrev pub invariant-rows : goal.invariant-rows
invariant-rows l = record {
  so_far : l.rows.items ++ rows_in (l.count - l.counter) l.rest ≡ rows_in l.count l.bytes;
  numbers : AreRows l.rows.items;
  left : length l.rest + 80 * l.counter ≡ length l.bytes;
}
