use Rattle.std.specs.Prelude.{false, string_bytes}
use Rattle.scripts.specs.declared.keyword.Command.TheVariants.{Run}
use Rattle.script_loading.specs.Loading.{IsLoadingOf, beginning_of}
use Rattle.script_loading.specs.declared.loading.Loading.TheVariants.{Ready}
use Rattle.run_command.specs.Parts.{IsKeptSo}
use Rattle.run_command.specs.Running.{never, Stopped}
use Rattle.run_command.proofs.RunLemmas.{run_weaker}
use Rattle.run_command.proofs.running.running.Goals as goal

pub returns-in-Some : goal.returns-in-Some
returns-in-Some g c =
    let ready : IsLoadingOf (beginning_of Run c.args.source) (Ready c.in-Ready.loaded) = rw c.in-Ready.is at c.in_ok-loaded.ensures in
    rw ready.0 (Stopped c.in-Some.stop (c.in-Some.ensures.unfit false) c.in_ok-stopped.ensures.status c.in_ok-stopped.ensures.lines)

pub returns-in-Ok : goal.returns-in-Ok
returns-in-Ok g c =
    let loaded = c.in-Ready.loaded in
    let ready : IsLoadingOf (beginning_of Run c.args.source) (Ready loaded) = rw c.in-Ready.is at c.in_ok-loaded.ensures in
    let m = c.args.manner in
    let r = c.in-Ok.field-0 in
    let run = run_weaker (IsKeptSo false r.journal never) (λ _ _. Unit {0}) (λ last renewal kept. tt) never loaded.state
    loaded.dcs.items loaded.first.items loaded.calls.items m.workers m.tries m.audit m.strict m.results r.report.status
    (string_bytes r.report.lines)
    (rw (c.as_slice.ensures.value, c.as_slice-2.ensures.value) at (c.in-Ok.ensures.run tt)) in
    rw ready.0 (rw (ready.1.state, ready.1.dcs, ready.1.first, ready.1.calls) at run)
