use Rattle.std.proofs.Common.{take}
use Rattle.partitioned_run.specs.Belonging.{AreRowsOf}
use Rattle.partitioned_run.proofs.belonging.other_of_rows.Given as goal

abbrev pub invariant-rows : goal.invariant-rows
invariant-rows l = AreRowsOf l.partitions l.number (take l.row-index l.rows)
