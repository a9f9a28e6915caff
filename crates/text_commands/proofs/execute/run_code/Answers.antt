use Rattle.std.proofs.Common.{◌∙◌, refl, ap}
use Rattle.access_slots.specs.Declaration.{Declaration}
use Rattle.verifier.specs.Verdict.{verdict}
use Rattle.text_commands.proofs.Answered.{accepted}
use Rattle.text_commands.proofs.execute.run_code.Goals as goal

pub returns-in-Ok : goal.returns-in-Ok
returns-in-Ok c = λ bytes none named spells.
    let v = c.in-Ok.verified in
    let same = c.in-Ok.ensures.value in
    let decl = c.in-Some.ensures.some in
    accepted v bytes c.args.code c.args.args.now c.answer.result same.0 (same.1 ∙ decl)
    none named spells (c.in-Some.ensures.few.0 refl) (ap (λ (d : Declaration). verdict d c.args.code) same.1 ∙ c.in-Ok.ensures.accepted) c.answer.ensures
