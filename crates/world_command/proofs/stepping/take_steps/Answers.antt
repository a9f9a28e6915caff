use Rattle.std.proofs.Common.{arith, rules, ◌≡◌, ◌<◌, ◌++◌, ◌&&◌, Bool, List, [], ◌∷◌, length, take, sym, ap, subst, ◌∙◌}
use Rattle.std.specs.Prelude.{string_bytes}
use Rattle.std.proofs.lemmas.List.{take_more}
use Rattle.scripts.specs.declared.script.Step.{Step as ScriptStep}
use Rattle.world_command.specs.OutcomeLines.{step_line}
use Rattle.world_command.specs.Stepping.{AreTaken, AnswersLine}
use Rattle.world_command.proofs.StepLemmas.{answered, one_taken}
use Rattle.world_command.proofs.stepping.take_steps.Goals as goal

pub loop-line-preserved : goal.loop-line-preserved
loop-line-preserved c =
    let i = c.loop-line.line-index in
    let x = c.line-item.result in
    let steps : List ScriptStep = c.args.steps.now in
    let w = c.args.world.now in
    let v = c.step-told.new.self in
    let said = c.step-told.result in
    let old = string_bytes c.args.lines.now in
    let new = string_bytes c.push_str.new.self in
    let below : i < length steps = omega arith in
    let more = take_more steps i x below ∙ ap (λ (y : ScriptStep). take i steps ++ y ∷ []) (sym c.line-item.is) in
    let answers = answered c.loop-line.world c.in_ok-step.step said v c.step-told.ensures.ok c.step-told.ensures.err c.step-told.ensures.why in
    let line : AnswersLine c.loop-line.world x said v =
    record {
      step = c.in_ok-step.step;
      says = c.in_ok-step.ensures;
      answers = answers;
      memory = sym c.is_want_of_memory.ensures ∙ c.if-is_want_of_memory.false;
    } in
    let lines : new ≡ string_bytes c.loop-line.lines ++ step_line said = search rules in
    let all = c.loop-line.all && c.is_ok-all.result in
    let possible = ap (λ (b : Bool). c.loop-line.all && b) c.is_ok-all.ensures.value in
    let taken = one_taken w c.loop-line.world v (take i steps) x said old (string_bytes c.loop-line.lines) new
    c.loop-line.all all c.loop-line.invariant line lines possible in
    subst (λ (xs : List ScriptStep). AreTaken w xs v old new all) (sym more) taken
