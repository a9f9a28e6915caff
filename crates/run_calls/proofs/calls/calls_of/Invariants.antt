use Rattle.std.proofs.Common.{take}
use Rattle.run_calls.specs.Answered.{AreCallsOf}
use Rattle.run_calls.proofs.calls.calls_of.Given as goal

abbrev pub invariant-loop-line : goal.invariant-loop-line
invariant-loop-line l = AreCallsOf (take l.line-index l.said) l.calls.items
