use Rattle.std.proofs.Common.{◌≡◌}
use Rattle.std.specs.Prelude.{string_bytes}
use Rattle.run_calls.specs.Figures.{procedure_lines_below}
use Rattle.run_calls.proofs.figures.procedure_lines.Given as goal

abbrev pub invariant-loop-number : goal.invariant-loop-number
invariant-loop-number l = string_bytes l.text ≡ procedure_lines_below l.number l.procs.names l.calls l.answers
