use Rattle.std.proofs.Common.{◌≡◌, take}
use Rattle.std.specs.Prelude.{string_bytes}
use Rattle.partitioned_run.specs.Logged.{front_lines}
use Rattle.partitioned_run.proofs.recovering.front_lines.Given as goal

abbrev pub invariant-loop-start : goal.invariant-loop-start
invariant-loop-start l = string_bytes l.lines ≡ front_lines (take l.start-index l.starts)
