use Rattle.std.proofs.Common.{◌≡◌, drop}
use Rattle.std.specs.List.{list_any}
use Rattle.log_picture.specs.Ways.{is_write_of}
use Rattle.log_picture.proofs.way.any_writes.Given as goal

abbrev pub invariant-ways : goal.invariant-ways
invariant-ways l = list_any (is_write_of l.«record») l.ways ≡ list_any (is_write_of l.«record») (drop l.way-index l.ways)
