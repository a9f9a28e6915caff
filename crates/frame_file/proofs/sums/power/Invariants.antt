use Rattle.std.proofs.Common.{◌≡◌, ◌%◌, ◌^◌}
use Rattle.frame_file.proofs.sums.power.Given as goal

abbrev pub invariant-loop-step : goal.invariant-loop-step
invariant-loop-step l = l.power ≡ 1099511628211 ^ l.step % 2 ^ 64
