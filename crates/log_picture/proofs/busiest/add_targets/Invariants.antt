use Rattle.std.proofs.Common.{◌≡◌, ◌++◌, map, take}
use Rattle.log_picture.specs.Busiest.{target_of}
use Rattle.log_picture.proofs.busiest.add_targets.Given as goal

abbrev pub invariant-ways : goal.invariant-ways
invariant-ways l = l.records.items ≡ l.initial.records.items ++ map target_of (take l.way-index l.ways)
