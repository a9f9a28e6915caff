use Rattle.std.proofs.Common.{◌≡◌, false, sym, ◌∙◌, ap}
use Rattle.request_numbers.specs.Given.{holds, others}
use Rattle.tc_core.specs.Doubts.{Doubts}
use Rattle.tc_core.proofs.DoubtLemmas.{others_same}
use Rattle.tc_core.proofs.given_up.GivenUp.remove.Goals as goal

pub returns-then-not-is_there-clause-numbers : goal.returns-then-not-is_there-clause-numbers
returns-then-not-is_there-clause-numbers c =
    let free : holds c.args.number c.args.self.now.numbers ≡ false = c.requires ∙ c.if-not-is_there.true in
    sym (others_same c.args.self.now.numbers c.args.number free)

pub returns-clause-numbers : goal.returns-clause-numbers
returns-clause-numbers c = c.leave_others.ensures.items ∙ ap (λ (d : Doubts). others c.args.number d.numbers) c.self.view_is
