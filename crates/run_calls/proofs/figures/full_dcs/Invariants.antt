use Rattle.std.proofs.Common.{◌≡◌, take}
use Rattle.std.specs.Prelude.{string_bytes}
use Rattle.run_calls.specs.Figures.{full_lines}
use Rattle.run_calls.proofs.figures.full_dcs.Given as goal

abbrev pub invariant-loop-number : goal.invariant-loop-number
invariant-loop-number l = string_bytes l.text ≡ full_lines (take l.number l.dcs)
