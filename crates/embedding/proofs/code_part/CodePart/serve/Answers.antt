use Rattle.std.proofs.Common.{refl}
use Rattle.embedding.proofs.ByNumber.{run_as}
use Rattle.embedding.proofs.code_part.CodePart.serve.Goals as goal

pub returns-in-10 : goal.returns-in-10
returns-in-10 c = run_as _ _ _ _ _ _ c.in-10.is refl (λ _. refl) (c.more_bytes.ensures.why) (λ _. refl) (c.more_bytes.ensures.done) (c.more_bytes.ensures.refused)

pub returns-in-11 : goal.returns-in-11
returns-in-11 c = run_as _ _ _ _ _ _ c.in-11.is refl (λ _. refl) (c.more_slots.ensures.why) (λ _. refl) (c.more_slots.ensures.done) (c.more_slots.ensures.refused)

pub returns-in-12 : goal.returns-in-12
returns-in-12 c =
    run_as _ _ _ _ _ _ c.in-12.is refl (λ _. refl) (λ wrong. absurd (wrong c.clear.ensures.code)) (λ _. refl)
    (λ _. c.clear.ensures.done) (λ wrong. absurd (wrong c.clear.ensures.code))

pub returns-in-50 : goal.returns-in-50
returns-in-50 c = run_as _ _ _ _ _ _ c.in-50.is refl (c.verify.ensures.refused) (c.verify.ensures.why) (c.verify.ensures.done) (λ _. c.verify.ensures.gathered) (λ _. c.verify.ensures.gathered)

pub returns-in-51 : goal.returns-in-51
returns-in-51 c = run_as _ _ _ _ _ _ c.in-51.is refl (c.run.ensures.refused) (c.run.ensures.why) (c.run.ensures.done) (λ _. c.run.ensures.gathered) (λ _. c.run.ensures.gathered)

pub returns-in-52 : goal.returns-in-52
returns-in-52 c = run_as _ _ _ _ _ _ c.in-52.is refl (c.resume.ensures.refused) (c.resume.ensures.why) (c.resume.ensures.done) (λ _. c.resume.ensures.gathered) (λ _. c.resume.ensures.gathered)
