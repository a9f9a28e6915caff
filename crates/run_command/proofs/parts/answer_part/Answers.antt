use Rattle.std.specs.Prelude.{is_some}
use Rattle.std.proofs.lemmas.Result.{IfOk-weaker}
use Rattle.run_command.proofs.PartsLemmas.{stepped, kept_behind}
use Rattle.run_command.proofs.parts.answer_part.Goals as goal

pub returns-in-Ok-clause-step : goal.returns-in-Ok-clause-step
returns-in-Ok-clause-step g c =
    let part = c.args.part in
    let ready = c.in-Ok.ensures in
    let answered = c.answer_on-answered in
    let it = rw (c.as_slice.ensures.value, c.as_slice-in-Ok.ensures.value) at answered.ensures in
    IfOk-weaker c.add_answered.result _ _ (λ now h.
    stepped part.manner.results c.args.so_far part.first.now part.calls.now c.in-Ok.first.items c.in-Ok.calls.items now answered.result
    ready.first ready.calls it.answered it.served h) c.add_answered.ensures.ok

pub returns-in-Ok-clause-kept : goal.returns-in-Ok-clause-kept
returns-in-Ok-clause-kept g c = λ was.
    let answered = c.answer_on-answered in
    IfOk-weaker c.add_answered.result _ _ (λ now h.
    kept_behind c.args.part.manner.results c.args.so_far now answered.result h (answered.ensures.kept was))
    c.add_answered.ensures.ok

pub returns-in-Ok-clause-fault : goal.returns-in-Ok-clause-fault
returns-in-Ok-clause-fault g c =
    let m = c.args.part.manner in
    let keeps = is_some c.args.so_far.ground.journal in
    let answered = c.answer_on-answered in
    c.add_answered.ensures.fault keeps m.workers m.tries answered.ensures.fault
