use Rattle.std.proofs.Common.{sym, subst}
use Rattle.std.specs.Prelude.{is_some, string_bytes}
use Rattle.std.proofs.lemmas.Result.{IfOk-weaker, IfErr-weaker}
use Rattle.run_ground.specs.declared.stop.Stop.{Stop}
use Rattle.run_command.specs.Parts.{IsKeptSo}
use Rattle.run_command.specs.Running.{Stopped}
use Rattle.run_ground.specs.Stops.{IsUnkept}
use Rattle.run_command.proofs.RunLemmas.{ran_run}
use Rattle.run_calls.proofs.StopLemmas.{told_stops}
use Rattle.run_command.proofs.running.run_from.Goals as goal

pub returns-in-Ok-answer_parts-clause-run : goal.returns-in-Ok-answer_parts-clause-run
returns-in-Ok-answer_parts-clause-run g c = λ was.
    let ground = c.args.ground in
    let input = c.args.input in
    let m = input.manner in
    let o = c.in-Ok-answer_parts.outcome in
    let it = c.in-Ok-answer_parts.ensures in
    IfOk-weaker c.ended.result _ _ (λ r h.
    ran_run (IsKeptSo (is_some ground.journal) r.journal input.checkpoints) input.checkpoints ground.state ground.dcs.items
    input.first.now input.calls.now m.workers m.tries m.audit m.strict m.results r.report.status (string_bytes r.report.lines) o it.range it.ended h.1
    (subst (λ j. IsKeptSo (is_some ground.journal) j input.checkpoints o.ground.state o.renewal) (sym h.0)
    (it.same, it.kept was, it.ended.heeded)))
    c.ended.ensures.ok

pub returns-in-Ok-answer_parts-clause-fault : goal.returns-in-Ok-answer_parts-clause-fault
returns-in-Ok-answer_parts-clause-fault g c =
    IfErr-weaker c.ended.result _ _ (λ e is. subst (λ (stop : Stop). IsUnkept (is_some c.args.ground.journal) stop) (sym is) tt) c.ended.ensures.err

pub returns-in-Err-answer_parts-clause-run : goal.returns-in-Err-answer_parts-clause-run
returns-in-Err-answer_parts-clause-run g c = λ was.
    let m = c.args.input.manner in
    IfOk-weaker c.stopped_at.result _ _ (λ r h.
    Stopped c.in-Err-answer_parts.stop
    (told_stops (is_some c.args.ground.journal) m.workers m.tries c.in-Err-answer_parts.stop (string_bytes r.report.lines) c.in-Err-answer_parts.ensures.fault h.1) h.0 h.1)
    c.stopped_at.ensures.ok

pub returns-in-Err-answer_parts-clause-fault : goal.returns-in-Err-answer_parts-clause-fault
returns-in-Err-answer_parts-clause-fault g c =
    let m = c.args.input.manner in
    c.stopped_at.ensures.fault (is_some c.args.ground.journal) m.workers m.tries c.in-Err-answer_parts.ensures.fault
