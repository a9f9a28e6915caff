use Rattle.std.proofs.Common.{◌≡◌, ◌-◌, length, Some, refl, arith, ap, subst, sym, ◌∙◌}
use Rattle.register_kinds.specs.declared.kinds.Kinds.{Kinds}
use Rattle.register_kinds.specs.Arriving.{violation_at}
use Rattle.verifier.specs.Joining.Table.{HasArrived}
use Rattle.verifier.specs.Verdict.{first_from}
use Rattle.verifier.proofs.Firsts.{goes_on, is_here, is_none}
use Rattle.verifier.proofs.Arrived.{entered}
use Rattle.verifier.proofs.second_pass.first_violation.Goals as goal

pub loop-at-init : goal.loop-at-init
loop-at-init c =
    let code = c.args.code.now in
    let waiting = c.in_ok-pending.pending in
    let none_less : length code - 0 ≡ length code = omega arith in
    let long : length waiting ≡ length code = c.in_ok-pending.ensures.long in
    let entry = entered c.args.decl.now code waiting long c.in_ok-pending.ensures.blank in
    record {
      arrived = subst (λ (ks : Kinds). HasArrived c.args.decl.now code 0 (Some ks) waiting) (sym c.entry.ensures) entry;
      none = ap (first_from (violation_at c.args.decl.now code) 0) none_less;
    }

pub loop-at-preserved : goal.loop-at-preserved
loop-at-preserved c = record {
  arrived = c.in_ok-violation.ensures.arrived c.in_default.is;
  none =
      goes_on (violation_at c.args.decl.now c.args.code.now) c.loop-at.at (length c.args.code.now) _ c.loop-at-test.true
      (sym c.in_ok-violation.ensures.violation ∙ c.in_default.is) c.loop-at.invariant.none;
}

pub returns-in-Some : goal.returns-in-Some
returns-in-Some c =
    sym (is_here (violation_at c.args.decl.now c.args.code.now) c.loop-at.at (length c.args.code.now) c.in-Some.violation _ c.loop-at-test.true
    (sym c.in_ok-violation.ensures.violation ∙ c.in-Some.is) c.loop-at.invariant.none)

pub returns : goal.returns
returns c = sym (is_none (violation_at c.args.decl.now c.args.code.now) c.loop-at.at (length c.args.code.now) _ c.loop-at-test.false c.loop-at.invariant.none)
