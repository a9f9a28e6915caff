use Rattle.std.proofs.Common.{◌≡◌, ◌++◌, ◌∙◌, [], ap, sym, subst, arith, length, take-append-drop}
use Rattle.std.proofs.lemmas.Bool.{eqb-true}
use Rattle.data_component.specs.Sorted.{Rows}
use Rattle.data_component.specs.Beginning.{AreOf}
use Rattle.data_component.proofs.BeginLemmas.{AreBegunTo, one_more_begun, all_begun, no_rows}
use Rattle.data_component.proofs.beginning.begin_all.Goals as goal

pub dcs-preserved : goal.dcs-preserved
dcs-preserved c =
    let own = c.split_at.result.0.now in
    let others = c.split_at.result.1.now in
    let cut : c.dcs.rest.now ≡ own ++ others = rw (c.split_at.ensures.front, c.split_at.ensures.back) (sym (take-append-drop c.own_count.result c.dcs.rest.now)) in
    let of : AreOf c.dcs.dc own = subst (AreOf c.dcs.dc) (sym c.split_at.ensures.front) c.own_count.ensures.own in
    one_more_begun c.args.rows.now own others c.dcs.rest.now c.args.mark c.dcs.dc c.args.dcs.now c.dcs.dcs c.begin_at.new.dcs
    c.dcs.invariant c.dcs-test.true cut of (λ s at. c.begin_at.ensures s at c.if-not-begin_at.false)

pub returns-then-is_empty : goal.returns-then-is_empty
returns-then-is_empty c =
    let none : c.dcs.rest.now ≡ [] = no_rows c.dcs.rest.now (eqb-true _ _ (sym c.is_empty.ensures ∙ c.if-is_empty.true)) in
    let below = c.dcs-test.false in
    let above = c.dcs.auto.dc-end in
    all_begun c.args.rows.now c.args.mark c.dcs.dc c.args.dcs.now c.dcs.dcs (omega (arith, below, above))
    (subst (λ (rest : Rows). AreBegunTo c.args.rows.now rest c.args.mark c.dcs.dc c.args.dcs.now c.dcs.dcs) none c.dcs.invariant)
