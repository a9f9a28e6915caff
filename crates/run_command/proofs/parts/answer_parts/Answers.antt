use Rattle.std.proofs.Common.{arith, rules, ◌≡◌, ◌∙◌, ◌+◌, ◌<◌, ap, length}
use Rattle.std.specs.Prelude.{is_some}
use Rattle.std.proofs.lemmas.List.{length-append}
use Rattle.std.proofs.lemmas.Result.{err_from_is_err_and, IfOk-weaker, IfErr-weaker}
use Rattle.run_command.proofs.PartsLemmas.{first_so_far, next_so_far, all_come, ended}
use Rattle.run_calls.proofs.StopLemmas.{unkept_stops}
use Rattle.run_command.proofs.parts.answer_parts.Goals as goal

pub parts-init : goal.parts-init
parts-init g c =
    let input = c.args.input in
    let next = c.next_part.ensures in
    let part = c.next_part.result.0 in
    let left = c.next_part.result.1 in
    let it = rw next.manner.0 at c.in_ok-outcome.ensures in
    let new = c.new.ensures in
    let whole : length input.calls.now ≡ length part.calls.now + length left.calls.now =
    ap length next.calls ∙ length-append part.calls.now left.calls.now in
    record {
      so_far =
          first_so_far input.manner.results c.args.ground input.checkpoints.over input.first.now input.calls.now c.new.result c.in_ok-outcome.outcome
          part.first.now part.calls.now left.first.now left.calls.now new.0 new.1 new.2 new.3 next.first next.calls next.none it.step next.measured;
      kept = rw new.0 at it.kept;
      same = rw new.0 at it.same;
      range = it.range;
      few = omega (arith, whole);
      manner = next.others.0;
      checkpoints = next.others.1;
    }

pub parts-preserved : goal.parts-preserved
parts-preserved g c =
    let l = c.parts in
    let was = l.invariant in
    let input = c.args.input in
    let next = rw was.checkpoints at c.next_part-in-parts.ensures in
    let part = c.next_part-in-parts.result.0 in
    let left = c.next_part-in-parts.result.1 in
    let renewed = c.in_ok-renewed.ensures in
    let it = rw (c.next_part-in-parts.ensures.manner.0 ∙ was.manner) at c.in_ok-outcome-2.ensures in
    let whole : length l.rest.calls.now ≡ length part.calls.now + length left.calls.now =
    ap length next.calls ∙ length-append part.calls.now left.calls.now in
    let few = was.few in
    let some : 0 < length l.rest.first.now + length l.rest.calls.now = search rules in
    record {
      so_far =
          next_so_far input.manner.results c.args.ground input.checkpoints.over input.first.now input.calls.now l.outcome c.in_ok-renewed.renewed
          c.in_ok-outcome-2.outcome l.rest.first.now l.rest.calls.now part.first.now part.calls.now left.first.now left.calls.now
          some was.so_far next.first next.calls next.none renewed.renewed renewed.answers.0 renewed.answers.1
          it.step next.measured;
      kept = λ start. it.kept (renewed.kept (was.kept start));
      same = it.same ∙ (renewed.same ∙ was.same);
      range = it.range;
      few = omega (arith, whole, few);
      manner = c.next_part-in-parts.ensures.others.0 ∙ was.manner;
      checkpoints = c.next_part-in-parts.ensures.others.1 ∙ was.checkpoints;
    }

pub returns-in_err-renewed-clause-fault : goal.returns-in_err-renewed-clause-fault
returns-in_err-renewed-clause-fault g c =
    let was = c.parts.invariant in
    let m = c.args.input.manner in
    let keeps = is_some c.args.ground.journal in
    let p = err_from_is_err_and c.from_residual-in_err-renewed.result c.from_residual-in_err-renewed.ensures.1 in
    let stops = unkept_stops keeps m.workers m.tries _ was.range.1 (rw was.same at c.in_err-renewed.ensures.fault) in
    rw (p.1, p.2) stops

pub returns-in_err-outcome-2-clause-fault : goal.returns-in_err-outcome-2-clause-fault
returns-in_err-outcome-2-clause-fault g c =
    let was = c.parts.invariant in
    let fault = rw (c.next_part-in-parts.ensures.manner.0 ∙ was.manner) at c.in_err-outcome-2.ensures.fault in
    let stops = rw (c.in_ok-renewed.ensures.same ∙ was.same) at fault in
    let p = err_from_is_err_and c.from_residual-in_err-outcome-2.result c.from_residual-in_err-outcome-2.ensures.1 in
    rw (p.1, p.2) stops

pub returns-clause-ended : goal.returns-clause-ended
returns-clause-ended g c =
    let l = c.parts in
    let input = c.args.input in
    let ground = c.args.ground in
    let first_none : length l.rest.first.now ≡ 0 = search rules in
    let none : length l.rest.calls.now ≡ 0 = search rules in
    let come = all_come input.manner.results ground input.checkpoints.over input.first.now input.calls.now l.outcome l.rest.first.now
    l.rest.calls.now first_none none l.invariant.so_far in
    let over = c.over_at_end-over in
    let last = c.renew_behind-2.ensures in
    ended input.manner.results ground.state ground.dcs.items input.first.now input.calls.now input.checkpoints over.result l.outcome
    c.renew_behind-2.result come over.ensures.over over.ensures.none last.renewed last.answers last.unwanted last.heeded

pub returns-clause-same : goal.returns-clause-same
returns-clause-same g c = IfOk-weaker c.renew_behind-2.result _ _ (λ o h. h ∙ c.parts.invariant.same) c.renew_behind-2.ensures.same

pub returns-clause-fault : goal.returns-clause-fault
returns-clause-fault g c =
    let m = c.args.input.manner in
    let keeps = is_some c.args.ground.journal in
    let was = c.parts.invariant in
    IfErr-weaker c.renew_behind-2.result _ _ (λ stop h. unkept_stops keeps m.workers m.tries stop was.range.1 h)
    (rw was.same at c.renew_behind-2.ensures.fault)
