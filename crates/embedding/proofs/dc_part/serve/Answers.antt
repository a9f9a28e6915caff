use Rattle.std.proofs.Common.{refl}
use Rattle.embedding.proofs.ByNumber.{kept_as}
use Rattle.embedding.proofs.dc_part.serve.Goals as goal

pub returns-in-40 : goal.returns-in-40
returns-in-40 c = kept_as _ _ _ _ _ _ c.in-40.is refl (c.perform.ensures.refused) (c.perform.ensures.why) (c.perform.ensures.done) (λ _. tt)

pub returns-in-41 : goal.returns-in-41
returns-in-41 c = kept_as _ _ _ _ _ _ c.in-41.is refl (λ nz _. c.restart.ensures.refused nz) (c.restart.ensures.why) (c.restart.ensures.done) (λ _. tt)

pub returns-in-42 : goal.returns-in-42
returns-in-42 c = kept_as _ _ _ _ _ _ c.in-42.is refl (λ nz _. absurd (nz refl)) (λ wrong. absurd (wrong refl)) (λ _. refl) (λ _. c.get.ensures)

pub returns-in-43 : goal.returns-in-43
returns-in-43 c = kept_as _ _ _ _ _ _ c.in-43.is refl (λ nz _. absurd (nz refl)) (λ wrong. absurd (wrong refl)) (λ _. refl) (λ _. c.row_count-frame.ensures)

pub returns-in-44 : goal.returns-in-44
returns-in-44 c = kept_as _ _ _ _ _ _ c.in-44.is refl (λ _ _. refl) (c.row.ensures.why) (λ _. refl) (c.row.ensures.done)

pub returns-in-45 : goal.returns-in-45
returns-in-45 c = kept_as _ _ _ _ _ _ c.in-45.is refl (λ nz _. absurd (nz refl)) (λ wrong. absurd (wrong refl)) (λ _. refl) (λ _. c.mark-frame.ensures)

pub returns-in-46 : goal.returns-in-46
returns-in-46 c = kept_as _ _ _ _ _ _ c.in-46.is refl (λ nz _. absurd (nz refl)) (λ wrong. absurd (wrong refl)) (λ _. (c.checkpoint-frame.ensures.store, c.checkpoint-frame.ensures.mark)) (λ _. tt)

pub returns-in-47 : goal.returns-in-47
returns-in-47 c = kept_as _ _ _ _ _ _ c.in-47.is refl (λ nz _. absurd (nz refl)) (λ wrong. absurd (wrong refl)) (λ _. refl) (λ _. c.incarnation-frame.ensures)

pub returns-in-48 : goal.returns-in-48
returns-in-48 c = kept_as _ _ _ _ _ _ c.in-48.is refl (λ nz _. absurd (nz refl)) (λ wrong. absurd (wrong refl)) (λ _. c.hear_mark.ensures) (λ _. tt)

pub returns-in-49 : goal.returns-in-49
returns-in-49 c = kept_as _ _ _ _ _ _ c.in-49.is refl (λ nz _. absurd (nz refl)) (λ wrong. absurd (wrong refl)) (λ _. c.forget.ensures) (λ _. tt)
