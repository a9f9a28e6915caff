use Rattle.std.proofs.Common.{◌≡◌, ◌-◌, length}
use Rattle.register_kinds.specs.Arriving.{violation_at}
use Rattle.verifier.specs.Joining.Table.{HasArrived}
use Rattle.verifier.specs.Verdict.{first_from, first_violation}
use Rattle.verifier.proofs.second_pass.first_violation.Given as goal

abbrev pub invariant-loop-at : goal.invariant-loop-at
invariant-loop-at l = record {
  arrived : HasArrived l.decl l.code l.at l.falling l.pending;
  none : first_from (violation_at l.decl l.code) l.at (length l.code - l.at) ≡ first_violation l.decl l.code;
}
