use Rattle.std.proofs.Common.{subst}
use Rattle.std.specs.Prelude.{count_by}
use Rattle.semantics.specs.Instruction.{program_of}
use Rattle.semantics.specs.Reach.{AsksAtMost, AsksOnceByEach}
use Rattle.verifier.specs.Calls.{is_call_place}
use Rattle.verifier.specs.Checked.{Checked}
use Rattle.verifier.proofs.Run.{accepted_asks_few, accepted_asks_once}
use Rattle.verifier.proofs.verify.Verified.calls.Goals as goal

pub returns-clause-few : goal.returns-clause-few
returns-clause-few c =
    let P : Checked → Type 0 = λ v. AsksAtMost (program_of v.code v.decl) (count_by is_call_place v.code) in
    subst P c.self.view_is (accepted_asks_few c.self.inside.code c.self.inside.decl c.self.invariant.0)

pub returns-clause-once : goal.returns-clause-once
returns-clause-once c =
    let P : Checked → Type 0 = λ v. AsksOnceByEach (program_of v.code v.decl) in
    subst P c.self.view_is (accepted_asks_once c.self.inside.code c.self.inside.decl c.self.invariant.0)
