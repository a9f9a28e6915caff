use Rattle.std.proofs.Common.{take}
use Rattle.std.specs.Prelude.{string_bytes}
use Rattle.world_command.specs.Stepping.{AreTaken}
use Rattle.world_command.proofs.stepping.take_steps.Given as goal

abbrev pub invariant-loop-line : goal.invariant-loop-line
invariant-loop-line l = AreTaken l.fn.world (take l.line-index l.steps) l.world (string_bytes l.fn.lines) (string_bytes l.lines) l.all
