use Rattle.std.proofs.Common.{subst}
use Rattle.semantics.specs.Reach.{IsSafe}
use Rattle.semantics.specs.Instruction.{program_of}
use Rattle.verifier.specs.Checked.{Checked}
use Rattle.verifier.proofs.Run.{accepted_is_safe}
use Rattle.verifier.proofs.verify.Verified.flat.Goals as goal

pub returns-clause-safe : goal.returns-clause-safe
returns-clause-safe c =
    let P : Checked → Type 0 = λ v. IsSafe (program_of v.code v.decl) in
    subst P c.self.view_is (accepted_is_safe c.self.inside.code c.self.inside.decl c.self.invariant.0)
