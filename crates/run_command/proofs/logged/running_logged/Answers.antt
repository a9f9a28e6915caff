use Rattle.std.proofs.Common.{sym, subst}
use Rattle.std.specs.List.{All}
use Rattle.scripts.specs.declared.keyword.Command.TheVariants.{Run}
use Rattle.script_loading.specs.Loading.{IsLoadingOf, beginning_of}
use Rattle.script_loading.specs.declared.loading.Loading.TheVariants.{Ready}
use Rattle.coming_back.specs.Coming.{HasOnlyRows}
use Rattle.run_log.proofs.LoggedLemmas.{all_empty}
use Rattle.run_command.proofs.logged.running_logged.Goals as goal

pub run_behind-requires-after_bounds : goal.run_behind-requires-after_bounds
run_behind-requires-after_bounds g c = λ _ _.
    let ready : IsLoadingOf (beginning_of Run c.args.source) (Ready c.in-Ready.loaded) = rw c.in-Ready.is at c.in_ok-loaded.ensures in
    subst (All HasOnlyRows) (sym ready.1.dcs) (all_empty (beginning_of Run c.args.source).contents.dcs)
