use Rattle.std.proofs.Common.{rules, ◌≡◌, ◌++◌, List, length, sym, subst}
use Rattle.std.proofs.lemmas.List.{append-nil}
use Rattle.scripts.specs.declared.script.Call.{Call}
use Rattle.run_command.specs.Fitting.{IsMeasuredIf}
use Rattle.run_command.proofs.FittingLemmas.{if_measured}
use Rattle.run_command.proofs.PartsLemmas.{is_none}
use Rattle.run_command.proofs.parts.next_part.Goals as goal

pub returns-then-is_empty-clause-measured : goal.returns-then-is_empty-clause-measured
returns-then-is_empty-clause-measured c =
    let over = c.args.rest.checkpoints.over in
    let procs = c.args.ground.now.state.procs in
    let dcs = c.args.ground.now.dcs.items in
    let first = c.args.rest.first.now in
    let part = c.split.result.0.now in
    let length_is : length first ≡ 0 = search rules in
    subst (λ (calls : List Call). IsMeasuredIf over procs dcs c.args.renewal (calls ++ part)) (sym (is_none first length_is))
    (if_measured over procs dcs c.args.renewal part c.split.ensures.measured)

pub returns-clause-measured : goal.returns-clause-measured
returns-clause-measured c =
    let over = c.args.rest.checkpoints.over in
    let procs = c.args.ground.now.state.procs in
    let dcs = c.args.ground.now.dcs.items in
    let part = c.split-2.result.0.now in
    subst (λ (calls : List Call). IsMeasuredIf over procs dcs c.args.renewal calls) (sym (append-nil part))
    (if_measured over procs dcs c.args.renewal part c.split-2.ensures.measured)
