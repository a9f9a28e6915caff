use Rattle.std.proofs.Common.{rules, ◌≡◌, List, length, subst, sym}
use Rattle.std.specs.Prelude.{IfOk, string_bytes}
use Rattle.std.specs.List.{All}
use Rattle.data_component.specs.Store.{Store}
use Rattle.scripts.specs.declared.keyword.Command.TheVariants as command
use Rattle.script_loading.specs.Loading.{beginning_of, IsLoadingOf}
use Rattle.script_loading.specs.declared.loading.Loading.TheVariants.{Ready}
use Rattle.coming_back.specs.Coming.{HasOnlyRows}
use Rattle.log_command.specs.LogReport.{IsBeside}
use Rattle.log_command.proofs.ReportLemmas.{ready_empty, ready_count, ready_begun, audit_is}
use Rattle.log_command.proofs.auditing.auditing.Goals as goal

pub beside-report-requires-clause-begun : goal.beside-report-requires-clause-begun
beside-report-requires-clause-begun c =
    let ready : IsLoadingOf (beginning_of command.Run c.args.source) (Ready c.in-Ready.loaded) = rw c.in-Ready.is at c.in_ok-loaded.ensures in
    ready_begun (beginning_of command.Run c.args.source).contents c.in-Ready.loaded ready.1

pub beside-report-requires-clause-count : goal.beside-report-requires-clause-count
beside-report-requires-clause-count c =
    let ready : IsLoadingOf (beginning_of command.Run c.args.source) (Ready c.in-Ready.loaded) = rw c.in-Ready.is at c.in_ok-loaded.ensures in
    let same : c.as_mut_slice.result.now ≡ c.in-Ready.loaded.dcs.items = search rules in
    subst (λ (dcs : List Store). length dcs ≡ c.in-Ready.loaded.state.dcs) (sym same)
    (ready_count (beginning_of command.Run c.args.source).contents c.in-Ready.loaded ready.1)

pub beside-report-requires-clause-empty : goal.beside-report-requires-clause-empty
beside-report-requires-clause-empty c =
    let ready : IsLoadingOf (beginning_of command.Run c.args.source) (Ready c.in-Ready.loaded) = rw c.in-Ready.is at c.in_ok-loaded.ensures in
    let same : c.as_mut_slice.result.now ≡ c.in-Ready.loaded.dcs.items = search rules in
    subst (All HasOnlyRows) (sym same) (ready_empty (beginning_of command.Run c.args.source).contents c.in-Ready.loaded ready.1)

pub returns-in-Ready : goal.returns-in-Ready
returns-in-Ready c =
    let same : c.as_mut_slice.result.now ≡ c.in-Ready.loaded.dcs.items = search rules in
    let it = c.in-Ready.loaded in
    audit_is c.args.file.now (beginning_of command.Run c.args.source) it c.beside-report.result (rw c.in-Ready.is at c.in_ok-loaded.ensures)
    (subst (λ (dcs : List Store). IfOk c.beside-report.result
    (λ r. IsBeside c.args.file.now it.state dcs r.status (string_bytes r.lines))) same c.beside-report.ensures)
