use Rattle.std.proofs.Common.{take}
use Rattle.std.specs.Prelude.{string_bytes}
use Rattle.partitioned_run.specs.Partitioned.{AddsAudits}
use Rattle.partitioned_run.proofs.reporting.write_audits.Given as goal

abbrev pub invariant-loop-number : goal.invariant-loop-number
invariant-loop-number l = AddsAudits l.audit (take l.number l.grounds) (string_bytes l.fn.lines) (string_bytes l.lines) l.sound
