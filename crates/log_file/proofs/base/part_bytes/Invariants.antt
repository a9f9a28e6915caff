use Rattle.std.proofs.Common.{◌≡◌, take}
use Rattle.log_file.specs.Bytes.{part_bytes}
use Rattle.log_file.proofs.base.part_bytes.Given as goal

abbrev pub invariant-rows : goal.invariant-rows
invariant-rows l = l.out.items ≡ part_bytes (take l.row-index l.rows)
