use Rattle.std.proofs.Common.{◌≡◌, inr, ⊎_elim, true, false, sym, ◌∙◌}
use Rattle.log_file.proofs.header.may_begin.Goals as goal

pub returns : goal.returns
returns c = (
  λ yes. inr (c.has_front-2.ensures.0 yes),
  λ begins.
      ⊎_elim
      (λ plain. (let bad : true ≡ false = sym (c.has_front.ensures.1 plain) ∙ c.if-has_front.false in cc))
      (λ of_session. c.has_front-2.ensures.1 of_session)
      begins,
)
