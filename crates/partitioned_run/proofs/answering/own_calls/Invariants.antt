use Rattle.std.proofs.Common.{take}
use Rattle.partitions.specs.Picking.{picked}
use Rattle.run_calls.specs.Answered.{AreCallsOf}
use Rattle.partitioned_run.proofs.answering.own_calls.Given as goal

abbrev pub invariant-loop-place : goal.invariant-loop-place
invariant-loop-place l = AreCallsOf (picked l.number (take l.place l.numbers) (take l.place l.said)) l.own.items
