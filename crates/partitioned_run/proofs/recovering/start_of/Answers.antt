use Rattle.std.proofs.Common.{rules, ◌≡◌, ◌==◌, true, sym, subst}
use Rattle.partitions.specs.Partitions.{partition_at}
use Rattle.std.specs.Prelude.{All, is_some}
use Rattle.std.proofs.lemmas.Result.{IfOk-weaker}
use Rattle.coming_back.specs.Coming.{HasOnlyRows}
use Rattle.run_log.proofs.LoggedLemmas.{all_empty}
use Rattle.scripts.specs.Reading.{contents_of}
use Rattle.partitioned_run.proofs.RecoveringLemmas.{recovered_so, same_number}
use Rattle.partitioned_run.proofs.recovering.start_of.Goals as goal

pub recover-requires : goal.recover-requires
recover-requires g c =
    subst (All HasOnlyRows) (sym c.in_ok-ground-in-Some.ensures.dcs) (all_empty (contents_of c.args.task.script.now).dcs)

pub returns-in_ok-ground-in-Some : goal.returns-in_ok-ground-in-Some
returns-in_ok-ground-in-Some g c =
    let s = contents_of c.args.task.script.now in
    let kept : is_some c.args.task.log ≡ true = search rules in
    let named : (partition_at c.args.task.division.now.partitions c.args.number == c.args.number) ≡ true = search (rules, same_number) in
    IfOk-weaker c.recover.result _ _
    (λ x h. recovered_so s (is_some c.args.task.log) c.args.task.division.now.partitions c.args.number c.in_ok-ground-in-Some.ground.state
    c.in_ok-ground-in-Some.ground.dcs.items x kept named c.in_ok-ground-in-Some.ensures.state c.in_ok-ground-in-Some.ensures.dcs h) c.recover.ensures
