use Rattle.std.proofs.Common.{ℕ, List, Option, ap}
use Rattle.verifier.specs.Checked.{Checked}
use Rattle.transactions.specs.Standing.{Standing}
use Rattle.tc_core.specs.Loaded.{Loaded}
use Rattle.call_results.specs.Results.{slots_in}
use Rattle.call_results.proofs.Along.{told_of_all}
use Rattle.call_results.proofs.results.slot_count.Goals as goal

pub returns : goal.returns
returns c =
    told_of_all ℕ (λ (ps : List Checked) (at : Option Standing) (k : ℕ). slots_in ps at) c.args.state.now.procs
    c.procs.result.now.codes c.procs-2.result.now.codes c.args.state.now.events c.log-log.result.now.events
    c.len.result
    c.args.txn.serial c.serial.result 0 c.rerun-run.result c.declared.result (ap (λ (l : Loaded). l.codes) c.procs.ensures)
    (ap (λ (l : Loaded). l.codes) c.procs-2.ensures) c.log-log.ensures c.len.ensures
    c.serial.ensures c.rerun-run.ensures.slot c.rerun-run.ensures.follows c.declared.ensures
