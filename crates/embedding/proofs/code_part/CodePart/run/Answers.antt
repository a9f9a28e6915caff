use Rattle.std.proofs.Common.{length, refl, sym, ap, ◌∙◌}
use Rattle.embedding.specs.Programs.{TooMany, Others}
use Rattle.embedding.proofs.code_part.CodePart.run.Goals as goal

pub returns-in_default-arguments-clause-why : goal.returns-in_default-arguments-clause-why
returns-in_default-arguments-clause-why c = λ _. TooMany refl c.in-Some.program c.in-Some.is c.in_default-arguments.ensures.none

pub returns-then-args-clause-why : goal.returns-then-args-clause-why
returns-then-args-clause-why c = λ _.
    Others refl c.in-Some.program c.in-Some.is c.in-Some-arguments.ensures.few
    (λ same. c.if-args.true (ap length c.in-Some-arguments.ensures.some ∙ (same ∙ sym c.args-2.ensures)))
