use Rattle.std.proofs.Common.{◌≡◌, ◌-◌, length}
use Rattle.verifier.specs.Flow.{flow_at}
use Rattle.verifier.specs.Verdict.{first_from, first_flaw}
use Rattle.verifier.proofs.first_pass.first_flaw.Given as goal

abbrev pub invariant-loop-at : goal.invariant-loop-at
invariant-loop-at l = first_from (flow_at l.code) l.at (length l.code - l.at) ≡ first_flaw l.code
