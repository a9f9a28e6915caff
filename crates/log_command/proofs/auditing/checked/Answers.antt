use Rattle.std.proofs.Common.{◌∙◌, reverse, subst}
use Rattle.std.specs.Prelude.{IfOk, string_bytes}
use Rattle.log_file.specs.Found.{base_in}
use Rattle.tc_core.specs.Loaded.{Loaded}
use Rattle.log_command.specs.LogReport.{AreAuditLines}
use Rattle.base_records.proofs.BaseLemmas.{have_only_rows, begun_count}
use Rattle.log_command.proofs.ReportLemmas.{unbegun_is, brought, audited_is, of_log, unfit_is}
use Rattle.log_command.proofs.auditing.checked.Goals as goal

pub returns-in-Some : goal.returns-in-Some
returns-in-Some c =
    unbegun_is c.args.state.now c.args.dcs.now c.args.stored.now c.in-Some.fault c.unbegun.result (rw c.in-Some.is at c.in_ok-fault.ensures.fault)
    c.unbegun.ensures.line c.unbegun.ensures.status

pub bring_back-requires : goal.bring_back-requires
bring_back-requires c =
    let s = c.args.stored.now in
    have_only_rows (base_in s.base) (reverse s.log.events) c.args.dcs.now c.begin.new.dcs (rw c.in_default.is at c.in_ok-fault.ensures.begun) c.requires.empty

pub returns-in-Ok : goal.returns-in-Ok
returns-in-Ok c =
    let it = c.in-Ok.ensures in
    let start = c.args.state.now in
    let back = c.bring_back.new.state in
    let s = c.args.stored.now in
    let dcs = c.bring_back.new.dcs in
    let are = brought start back c.begin.new.dcs s.log.events dcs it.legal it.log it.known it.redone it.agreed in
    let found = subst (λ (l : Loaded). IfOk c.audited.result
    (λ r. AreAuditLines l.codes s dcs r.status (string_bytes r.lines))) c.procs.ensures c.audited.ensures in
    audited_is start back c.args.dcs.now c.begin.new.dcs s dcs c.audited.result (rw c.in_default.is at c.in_ok-fault.ensures.begun) are it.log found

pub unfit-requires : goal.unfit-requires
unfit-requires c =
    let s = c.args.stored.now in
    let count = begun_count (base_in s.base) (reverse s.log.events) c.args.dcs.now c.begin.new.dcs (rw c.in_default.is at c.in_ok-fault.ensures.begun) in
    of_log c.args.state.now s.log.events _ c.bring_back.new.state c.bring_back.new.dcs c.in-Err.fault
    c.in-Err.ensures.fault c.requires.begun (count ∙ c.requires.count)

pub returns-in-Err : goal.returns-in-Err
returns-in-Err c =
    unfit_is c.args.state.now c.bring_back.new.state c.args.dcs.now c.begin.new.dcs c.args.stored.now c.bring_back.new.dcs c.in-Err.fault c.unfit.result
    (rw c.in_default.is at c.in_ok-fault.ensures.begun) c.in-Err.ensures.fault c.unfit.ensures
