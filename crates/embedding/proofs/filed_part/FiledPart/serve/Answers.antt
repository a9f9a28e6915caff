use Rattle.std.proofs.Common.{ap, refl}
use Rattle.embedding.specs.declared.filed_part.FiledPart.{FiledPart}
use Rattle.embedding.proofs.ByNumber.{same_gathered}
use Rattle.embedding.proofs.FilingLemmas.{filed_as, same_file, same_rest}
use Rattle.embedding.proofs.filed_part.FiledPart.serve.Goals as goal

pub returns-in-63 : goal.returns-in-63
returns-in-63 c = filed_as _ _ _ _ _ 63 c.in-63.is refl (λ wrong. ap (λ (x : FiledPart). x.part.state) (c.prepare.ensures.refused wrong))
    (λ wrong. same_file _ _ (c.prepare.ensures.refused wrong)) (c.prepare.ensures.done) (c.prepare.ensures.why)
    (λ wrong. same_rest _ _ (c.prepare.ensures.refused wrong))

pub returns-in-64 : goal.returns-in-64
returns-in-64 c = filed_as _ _ _ _ _ 64 c.in-64.is refl (λ wrong. refl) (λ wrong. absurd (wrong refl))
    (λ _. record { count = c.hand_out.ensures.count; bytes = c.hand_out.ensures.bytes; left = c.hand_out.ensures.rest; file = refl; part = refl })
    (λ wrong. wrong refl) (λ _. (same_gathered _, refl))

pub returns-in-65 : goal.returns-in-65
returns-in-65 c = filed_as _ _ _ _ _ 65 c.in-65.is refl (c.take_back.ensures.refused) (c.take_back.ensures.file) (c.take_back.ensures.done)
    (c.take_back.ensures.why) (λ wrong. (c.take_back.ensures.gathered wrong, c.take_back.ensures.requests))

pub returns-in-66 : goal.returns-in-66
returns-in-66 c =
    let p = c.args.self.now in
    filed_as p _ _ p _ 66 c.in-66.is refl (λ wrong. refl) (λ wrong. same_file p p refl) (λ _. c.session.ensures.done)
    (λ wrong. wrong c.session.ensures.code) (λ wrong. same_rest p p refl)

pub returns-in-67 : goal.returns-in-67
returns-in-67 c = filed_as _ _ _ _ _ 67 c.in-67.is refl (λ wrong. ap (λ (x : FiledPart). x.part.state) (c.set_session.ensures.refused wrong))
    (λ wrong. same_file _ _ (c.set_session.ensures.refused wrong)) (c.set_session.ensures.done) (c.set_session.ensures.why)
    (λ wrong. same_rest _ _ (c.set_session.ensures.refused wrong))
