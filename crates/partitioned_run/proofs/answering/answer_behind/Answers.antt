use Rattle.std.proofs.Common.{◌∙◌, sym}
use Rattle.scripts.specs.Reading.{contents_of}
use Rattle.script_loading.specs.Loading.{begun, empty_stores}
use Rattle.partitions.specs.Picking.{picked}
use Rattle.partitioned_run.proofs.DividingLemmas.{idle_run, none_run, run_behind}
use Rattle.partitioned_run.proofs.answering.answer_behind.Goals as goal

pub returns-then-is_called : goal.returns-then-is_called
returns-then-is_called g c =
    run_behind (contents_of c.args.task.script.now) c.args.task.division.now c.args.number c.args.ground c.answer_own.result c.answer_own.ensures.run
    (c.answer_own.ensures.kept c.requires.kept)

pub returns : goal.returns
returns g c =
    let s = contents_of c.args.task.script.now in
    let d = c.args.task.division.now in
    idle_run (begun s) (empty_stores s) c.args.ground (picked c.args.number d.first.items s.first) (picked c.args.number d.calls.items s.calls)
    c.new.result.first.items c.new.result.calls.items
    (none_run s d c.args.number c.new.result (sym c.is_called.ensures ∙ c.if-is_called.false) c.new.ensures) c.requires.kept
