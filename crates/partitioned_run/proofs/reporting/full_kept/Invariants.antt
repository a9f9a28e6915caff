use Rattle.std.proofs.Common.{◌≡◌, take}
use Rattle.std.specs.Prelude.{string_bytes}
use Rattle.run_calls.specs.Figures.{full_lines}
use Rattle.partitioned_run.specs.Partitioned.{kept_dcs}
use Rattle.partitioned_run.proofs.reporting.full_kept.Given as goal

abbrev pub invariant-loop-number : goal.invariant-loop-number
invariant-loop-number l = string_bytes l.text ≡ full_lines (kept_dcs l.partitions l.grounds (take l.number l.empty))
