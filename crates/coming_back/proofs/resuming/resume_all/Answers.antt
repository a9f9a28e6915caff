use Rattle.std.proofs.Common.{ℕ, ◌+◌, List, [], refl, sym, ◌∙◌, subst, arith, add-one, vec_capacity}
use Rattle.coming_back.specs.declared.resumed.Resumed.{Resumed}
use Rattle.coming_back.specs.Joining.Moving.{CameOfAll}
use Rattle.tc_world.proofs.BeginningLemmas.{before_admitted}
use Rattle.coming_back.proofs.MovingLemmas.{none_yet, one_more_at, room_for_at, all_done}
use Rattle.coming_back.proofs.resuming.resume_all.Goals as goal

pub loop-done-init : goal.loop-done-init
loop-done-init c = record {
  came = subst (λ (xs : List Resumed). CameOfAll c.args.state.now c.args.dcs.now c.args.state.now c.args.dcs.now
      c.admitted_before-done.result xs) (sym c.requires.none)
      (subst (λ (n : ℕ). CameOfAll c.args.state.now c.args.dcs.now c.args.state.now c.args.dcs.now n []) (sym c.admitted_before-done.ensures)
      (none_yet c.args.state.now c.args.dcs.now c.known.ensures.legal));
  within =
      let few = before_admitted c.args.state.now.procs c.args.state.now.events c.known.ensures.legal in
      let from = c.admitted_before-done.ensures in
      omega (arith, few, from);
  capacity = refl;
}

pub push-requires : goal.push-requires
push-requires c = λ some.
    let i = c.loop-done.invariant in
    let low = c.loop-done-test.true in
    let all = c.admitted-done-end.ensures in
    let room = c.requires.room in
    let same = i.capacity in
    let many = c.loop-done.resumed.ok.0 in
    let short =
    room_for_at _ _ _ _ _ c.loop-done.done (c.loop-done.done + 1) (vec_capacity c.loop-done.resumed)
    c.loop-done.resumed.items c.resume.result (add-one c.loop-done.done) i.came c.resume.ensures.came
    (omega (arith, low, all)) (omega (arith, room, same)) some in
    omega (arith, short, many)

pub loop-done-preserved : goal.loop-done-preserved
loop-done-preserved c = record {
  came = subst (λ (xs : List Resumed). CameOfAll c.args.state.now c.args.dcs.now c.resume.new.state c.resume.new.dcs
      (c.loop-done.done + 1) xs) (sym c.push.ensures.items)
      (one_more_at _ _ _ _ _ _ c.loop-done.done (c.loop-done.done + 1) _ _ (add-one _) c.loop-done.invariant.came c.resume.ensures.moves c.resume.ensures.came);
  within = (let low = c.loop-done-test.true in let all = c.admitted-done-end.ensures in omega (arith, low, all));
  capacity = c.push.ensures.capacity ∙ c.loop-done.invariant.capacity;
}

pub returns-clause-goes : goal.returns-clause-goes
returns-clause-goes c = c.loop-done.invariant.came.goes

pub returns-clause-serials : goal.returns-clause-serials
returns-clause-serials c =
    let all = c.admitted-done-end.ensures in
    let end = c.loop-done-test.false in
    let within = c.loop-done.invariant.within in
    (all_done _ _ _ _ c.loop-done.done _ (omega (arith, all, end, within)) c.loop-done.invariant.came).0

pub returns-clause-doubts : goal.returns-clause-doubts
returns-clause-doubts c =
    let all = c.admitted-done-end.ensures in
    let end = c.loop-done-test.false in
    let within = c.loop-done.invariant.within in
    (all_done _ _ _ _ c.loop-done.done _ (omega (arith, all, end, within)) c.loop-done.invariant.came).1

pub returns-clause-each : goal.returns-clause-each
returns-clause-each c =
    let all = c.admitted-done-end.ensures in
    let end = c.loop-done-test.false in
    let within = c.loop-done.invariant.within in
    (all_done _ _ _ _ c.loop-done.done _ (omega (arith, all, end, within)) c.loop-done.invariant.came).2
