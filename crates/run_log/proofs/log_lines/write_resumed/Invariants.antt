use Rattle.std.proofs.Common.{◌≡◌, ◌++◌, take}
use Rattle.std.specs.Prelude.{string_bytes}
use Rattle.run_log.specs.LogLines.{resumed_lines}
use Rattle.run_log.proofs.log_lines.write_resumed.Given as goal

abbrev pub invariant-loop-one : goal.invariant-loop-one
invariant-loop-one l = string_bytes l.lines ≡ string_bytes l.fn.lines ++ resumed_lines (take l.one-index l.resumed)
