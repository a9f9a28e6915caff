use Rattle.std.proofs.Common.{◌≡◌, ℕ, List, [], ap, subst, ◌∙◌}
use Rattle.std.specs.Prelude.{string_bytes}
use Rattle.scripts.specs.declared.script.Step.{Step as ScriptStep}
use Rattle.tc_core.specs.Core.{Core}
use Rattle.tc_log.specs.declared.event.Event.{Event}
use Rattle.transactions.specs.Room.{each_one, total}
use Rattle.world_command.specs.Stepping.{AreTaken}
use Rattle.world_command.proofs.WorldLemmas.{stepped_report, none_reported}
use Rattle.world_command.proofs.world.stepped.Goals as goal
use Rattle.world_command.proofs.world.stepped.Goals.{in-Ok, in-Err}

none_open : (events : List Event) → events ≡ [] → total each_one events ≡ 0
unfolding total
none_open events none = ap (total each_one) none

pub new-world-requires : goal.new-world-requires
new-world-requires c = none_open c.args.loaded.state.events c.requires

pub returns : goal.returns
returns c = elim c.match-taken.branch [
  | in-Ok w ↦
      let start = c.new-world.result in
      let end = c.take_steps-taken.new.world in
      let stepped = string_bytes c.take_steps-taken.new.lines in
      let by_slice = subst (λ (xs : List ScriptStep). AreTaken start xs end (string_bytes c.new-lines.result) stepped
      w.in-Ok.all) c.as_slice.ensures.value w.in-Ok.ensures in
      let taken = subst (λ (old : List ℕ). AreTaken start c.args.loaded.steps.items end old stepped w.in-Ok.all) c.new-lines.ensures.bytes by_slice in
      let dcs = w.as_slice-in-Ok.ensures.value ∙ c.close-state.ensures.dcs in
      stepped_report c.match-taken.report w.report_of-report.result c.args.loaded c.args.behind w.in-Ok.all start end stepped
      c.close-state.result.0 w.as_slice-in-Ok.result.now w.report-is dcs c.close-state.ensures.kept c.new-world.ensures.whole taken w.report_of-report.ensures
  | in-Err w ↦ none_reported c.match-taken.report c.args.loaded c.args.behind _ w.report-is
]
