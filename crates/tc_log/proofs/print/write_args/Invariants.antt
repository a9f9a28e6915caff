use Rattle.std.proofs.Common.{◌≡◌, ◌++◌, take}
use Rattle.std.specs.List.{flat_map}
use Rattle.std.specs.Int.{w64, to_le_bytes}
use Rattle.tc_log.proofs.print.write_args.Given as goal

abbrev pub invariant-numbers : goal.invariant-numbers
invariant-numbers l = l.out.items ≡ l.initial.out.items ++ flat_map (to_le_bytes w64) (take l.arg-index l.args)
