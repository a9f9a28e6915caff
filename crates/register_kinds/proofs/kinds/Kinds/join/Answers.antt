use Rattle.std.proofs.Common.{◌≡◌, ◌≢◌, ◌<◌, length, arith, below_more, get_or-set_same, get_or-set_other, ap, ◌∙◌, sym, subst, rules}
use Rattle.std.proofs.lemmas.List.{length-set}
use Rattle.register_kinds.specs.declared.kind.Kind.{Kind}
use Rattle.register_kinds.specs.declared.kinds.Kinds.{Kinds}
use Rattle.register_kinds.specs.Fitting.{IsWeaker}
use Rattle.register_kinds.specs.Kinds.{join_of, join_kinds, kind_at}
use Rattle.register_kinds.proofs.Joins.{weaker_left, weaker_right}
use Rattle.register_kinds.proofs.Orders.{kinds_swap, kinds_three}
use Rattle.register_kinds.proofs.Rows.{joined_is}
use Rattle.register_kinds.proofs.kinds.Kinds.join.Goals as goal

pub loop-r-preserved : goal.loop-r-preserved
loop-r-preserved c = record {
  long = length-set c.loop-r.self.registers c.loop-r.r c.join.result ∙ c.loop-r.invariant.long;
  done =
      below_more _ _
      (λ k h. let ne : k ≢ c.loop-r.r = omega arith in rw get_or-set_other (c.loop-r.invariant.done k h))
      (let lt : c.loop-r.r < length c.loop-r.self.registers = omega (arith, c.loop-r.invariant.long) in
      let first = c.loop-r.invariant.rest c.loop-r.r (omega arith) in
      rw get_or-set_same (c.join.ensures ∙ ap (λ (k : Kind). join_of k (kind_at c.args.other.now c.loop-r.r)) first));
  rest = λ k le. let ne : k ≢ c.loop-r.r = omega arith in rw get_or-set_other (c.loop-r.invariant.rest k (omega arith));
}

pub returns-clause-value : goal.returns-clause-value
returns-clause-value c =
    let la : length c.args.self.now.registers ≡ 11 = search rules in
    let lb : length c.args.other.now.registers ≡ 11 = search rules in
    joined_is c.args.self.now c.args.other.now c.loop-r.self la lb c.loop-r.invariant.long (λ k lt. c.loop-r.invariant.done k (omega arith))

pub returns-clause-weaker : goal.returns-clause-weaker
returns-clause-weaker c =
    let a = c.args.self.now in
    let b = c.args.other.now in
    let is = sym (returns-clause-value c) in
    (subst (IsWeaker a) is (weaker_left a b), subst (IsWeaker b) is (weaker_right a b))

pub returns-clause-either_first : goal.returns-clause-either_first
returns-clause-either_first c = returns-clause-value c ∙ kinds_swap c.args.self.now c.args.other.now

pub returns-clause-any_order : goal.returns-clause-any_order
returns-clause-any_order c = λ ks. ap (λ (j : Kinds). join_kinds j ks) (returns-clause-value c) ∙ kinds_three c.args.self.now c.args.other.now ks
