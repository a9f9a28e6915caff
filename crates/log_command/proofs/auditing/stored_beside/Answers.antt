use Rattle.std.proofs.Common.{◌≡◌, rules}
use Rattle.log_command.specs.LogReport.{own_header}
use Rattle.log_command.proofs.ReportLemmas.{anothers_is, own_is}
use Rattle.log_command.proofs.auditing.stored_beside.Goals as goal

pub returns-then-eq : goal.returns-then-eq
returns-then-eq c file is =
    let same : c.args.stored.now.header ≡ own_header c.args.state.now c.args.stored.now = search rules in
    own_is file c.args.state.now c.args.dcs.now c.args.stored.now c.checked.result is same c.checked.ensures

pub returns-else-eq : goal.returns-else-eq
returns-else-eq c file is =
    let differs : ¬ (c.args.stored.now.header ≡ own_header c.args.state.now c.args.stored.now) = search rules in
    let line = rw (c.in_ok-header.ensures, c.procs.ensures) at c.anothers.ensures.line in
    anothers_is file c.args.state.now c.args.dcs.now c.args.stored.now c.anothers.result is differs line c.anothers.ensures.status
