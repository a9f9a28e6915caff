use Rattle.std.proofs.lemmas.Result.{IfOk-weaker}
use Rattle.scripts.specs.Reading.{contents_of}
use Rattle.partitioned_run.proofs.DividingLemmas.{own_kept, own_run}
use Rattle.partitioned_run.proofs.answering.answer_own.Goals as goal

pub returns-in-Ok-clause-run : goal.returns-in-Ok-clause-run
returns-in-Ok-clause-run g c =
    let task = c.args.task in
    let answered = rw (c.as_slice.ensures.value, c.as_slice-in-Ok.ensures.value) at c.answer_on-answered.ensures in
    IfOk-weaker c.ran_of.result _ _
    (λ ran is. own_run (contents_of task.script.now) task.division.now c.args.number c.args.ground c.in-Ok.first.items c.in-Ok.calls.items
    c.answer_on-answered.result ran c.in-Ok.ensures.first c.in-Ok.ensures.calls answered.answered answered.served is) c.ran_of.ensures

pub returns-in-Ok-clause-kept : goal.returns-in-Ok-clause-kept
returns-in-Ok-clause-kept g c = λ by.
    IfOk-weaker c.ran_of.result _ _
    (λ ran is. own_kept c.args.ground c.answer_on-answered.result ran c.answer_on-answered.ensures.kept c.answer_on-answered.ensures.same is by)
    c.ran_of.ensures
