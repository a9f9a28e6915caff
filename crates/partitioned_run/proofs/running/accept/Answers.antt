use Rattle.std.specs.Prelude.{option_map}
use Rattle.std.proofs.lemmas.Result.{IfOk-weaker}
use Rattle.scripts.specs.declared.keyword.Command.TheVariants as command
use Rattle.script_loading.specs.Loading.{beginning_of}
use Rattle.partitioned_run.proofs.ReportingLemmas.{may_be_run}
use Rattle.partitioned_run.proofs.running.accept.Goals as goal

pub returns : goal.returns
returns c =
    IfOk-weaker c.accept_source.result _ _
    (λ a is. may_be_run (option_map (λ file. file.now) c.args.source.object) (beginning_of command.Run c.args.source) a is) c.accept_source.ensures
