use Rattle.std.proofs.Common.{ℕ, [], ◌∷◌, ◌++◌, refl, subst, sym, ◌∙◌}
use Rattle.embedding.specs.Programs.{Idle, Unsaid, Strange}
use Rattle.embedding.specs.Running.{StopsAt}
use Rattle.embedding.proofs.RunningLemmas.{waits_not, waits_some}
use Rattle.embedding.proofs.code_part.CodePart.resume.Goals as goal

pub returns-in-Some-resume-clause-done : goal.returns-in-Some-resume-clause-done
returns-in-Some-resume-clause-done c = λ _.
    let now = c.resume.new.self in let said = c.in-Some-said.said in
    record {
      before = c.in-Some.program;
      was = c.in-Some.is;
      after = now;
      is = refl;
      same = c.resume.ensures.code;
      said = said;
      says = c.in-Some-said.ensures.some;
      takes = c.in-Some-resume.ensures.takes;
      p = c.in-Some-resume.stop.0;
      stops = λ args answers o w. subst (λ (n : ℕ). StopsAt now.code args (answers ++ said ∷ []) c.in-Some-resume.stop.0 n now.run) (sym c.put_stop.ensures.1)
          (c.in-Some-resume.ensures.goes_on args answers o w);
      told = c.put_stop.ensures.0;
    }

pub returns-then-not-waits-clause-why : goal.returns-then-not-waits-clause-why
returns-then-not-waits-clause-why c = λ _.
    let p = c.in-Some.program in Idle refl p c.in-Some.is (waits_not p.run (sym c.waits.ensures ∙ c.if-not-waits.true))

pub returns-in_default-said-clause-why : goal.returns-in_default-said-clause-why
returns-in_default-said-clause-why c = λ _.
    let p = c.in-Some.program in
    Unsaid refl p c.in-Some.is (waits_some p.run (sym c.waits.ensures ∙ c.if-not-waits.false)) c.in_default-said.ensures.none

pub returns-in-None-clause-why : goal.returns-in-None-clause-why
returns-in-None-clause-why c = λ _.
    let p = c.in-Some.program in
    Strange refl p c.in-Some.is (waits_some p.run (sym c.waits.ensures ∙ c.if-not-waits.false))
    c.in-Some-said.said c.in-Some-said.ensures.some c.in-None.ensures.why
