use Rattle.std.proofs.Common.{◌∙◌, sym}
use Rattle.std.proofs.lemmas.Result.{IfOk-weaker}
use Rattle.scripts.specs.Reading.{contents_of}
use Rattle.script_loading.specs.Loading.{begun, empty_stores}
use Rattle.partitions.specs.Picking.{picked}
use Rattle.partitioned_run.proofs.DividingLemmas.{answered_anew, none_run}
use Rattle.partitioned_run.proofs.answering.answer_anew.Goals as goal

pub returns-then-is_called : goal.returns-then-is_called
returns-then-is_called g c =
    let s = contents_of c.args.task.script.now in
    let d = c.args.task.division.now in
    IfOk-weaker c.answer_own.result _ _
    (λ ran on. answered_anew (begun s) (empty_stores s) c.in_ok-ground.ground (picked c.args.number d.first.items s.first)
    (picked c.args.number d.calls.items s.calls) ran.answers.first.items ran.answers.calls.items ran.ground
    c.in_ok-ground.ensures.state c.in_ok-ground.ensures.dcs on) c.answer_own.ensures.run

pub returns : goal.returns
returns g c =
    none_run (contents_of c.args.task.script.now) c.args.task.division.now c.args.number c.new.result (sym c.is_called.ensures ∙ c.if-is_called.false)
    c.new.ensures
