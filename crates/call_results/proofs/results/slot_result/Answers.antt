use Rattle.std.proofs.Common.{Option, ◌∙◌, ap}
use Rattle.tc_core.specs.Loaded.{Loaded}
use Rattle.call_results.specs.Results.{result_in}
use Rattle.call_results.specs.declared.results.SlotResult.{SlotResult}
use Rattle.call_results.proofs.Along.{told_of_all}
use Rattle.call_results.proofs.results.slot_result.Goals as goal

pub returns : goal.returns
returns c =
    told_of_all (Option SlotResult) result_in c.args.state.now.procs c.procs.result.now.codes c.procs-2.result.now.codes c.args.state.now.events c.log-log.result.now.events c.len.result
    c.args.txn.serial c.serial-2.result c.args.slot c.rerun-run.result c.held.result (ap (λ (l : Loaded). l.codes) c.procs.ensures)
    (ap (λ (l : Loaded). l.codes) c.procs-2.ensures) c.log-log.ensures c.len.ensures
    (c.serial-2.ensures ∙ (c.in_ok-txn.ensures.found.0 ∙ c.serial.ensures)) c.rerun-run.ensures.slot c.rerun-run.ensures.follows c.held.ensures
