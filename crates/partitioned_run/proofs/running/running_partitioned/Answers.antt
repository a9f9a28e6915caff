use Rattle.std.proofs.Common.{subst}
use Rattle.std.specs.Prelude.{is_some, option_map, string_bytes}
use Rattle.std.proofs.lemmas.Result.{IfOk-weaker}
use Rattle.scripts.specs.declared.keyword.Command.TheVariants as command
use Rattle.script_loading.specs.Loading.{beginning_of}
use Rattle.partitioned_run.specs.Joining.Reporting.{MayBeRun}
use Rattle.partitioned_run.proofs.ReportingLemmas.{accepted_run}
use Rattle.partitioned_run.proofs.running.running_partitioned.Goals as goal

pub returns-in-Accepted : goal.returns-in-Accepted
returns-in-Accepted g c =
    let object = option_map (λ file. file.now) c.args.source.object in
    let b = beginning_of command.Run c.args.source in
    let is = subst (MayBeRun object b) c.in-Accepted.is c.in_ok-acceptance.ensures in
    let m = c.args.manner in
    IfOk-weaker c.run_fit.result _ _
    (λ r run. accepted_run (is_some c.args.log) b c.in-Accepted.accepted.script m.workers m.tries m.audit m.strict r.status (string_bytes r.lines) is.2 is.3 run) c.run_fit.ensures
