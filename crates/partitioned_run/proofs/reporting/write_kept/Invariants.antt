use Rattle.std.proofs.Common.{take}
use Rattle.std.specs.Prelude.{string_bytes}
use Rattle.state_lines.specs.RowLines.{AddsRowLines}
use Rattle.partitioned_run.specs.Partitioned.{kept_dcs}
use Rattle.partitioned_run.proofs.reporting.write_kept.Given as goal

abbrev pub invariant-loop-number : goal.invariant-loop-number
invariant-loop-number l =
    AddsRowLines (kept_dcs l.partitions l.grounds (take l.number l.empty)) (string_bytes l.fn.lines) (string_bytes l.lines)
