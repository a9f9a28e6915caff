use Rattle.std.proofs.Common.{rules}
use Rattle.frame_file.proofs.Blocks.{power_on}
use Rattle.frame_file.proofs.sums.power.Goals as goal

pub loop-step-preserved : goal.loop-step-preserved
loop-step-preserved c = search (rules, power_on c.loop-step.power c.loop-step.step c.loop-step.invariant)
