use Rattle.std.proofs.Common.{◌≡◌, vec_capacity}
use Rattle.tc_core.proofs.recovery.spend.Given as goal

abbrev pub invariant-loop-request : goal.invariant-loop-request
invariant-loop-request l = vec_capacity l.requests ≡ vec_capacity l.fn.requests

abbrev pub decreases-loop-request : goal.decreases-loop-request
decreases-loop-request l = goal.left-loop-request l
