use Rattle.std.proofs.Common.{◌≡◌, ◌++◌, take}
use Rattle.log_file.specs.Reading.{Rise}
use Rattle.log_file.proofs.base.add_rising.Given as goal

abbrev pub invariant-rows : goal.invariant-rows
invariant-rows l = record {
  so_far : l.base.items ≡ l.initial.base.items ++ take l.row-index l.rows;
  rise : Rise l.base.items;
}
