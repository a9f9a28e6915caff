use Rattle.std.proofs.Common.{arith, rules, nat_lt}
use Rattle.std.proofs.lemmas.Fn.{filter_same}
use Rattle.data_component.proofs.Serving.{left_out}
use Rattle.data_component.proofs.kept.leave_out_old.Goals as goal

pub returns-clause-kept : goal.returns-clause-kept
returns-clause-kept c = λ performed are.
    left_out c.args.kept.now.items c.retain.new.self.items c.args.mark performed are
    (filter_same _ (λ entry. nat_lt c.args.mark entry.0) _ (λ x b f' k. search rules) _ _ c.retain.ensures.filtered)
    (omega (arith, c.retain.ensures.bound, c.retain.new.self.ok.0, c.args.kept.now.ok.0))
