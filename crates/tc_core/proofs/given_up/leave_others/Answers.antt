use Rattle.std.proofs.Common.{rules, not, ◌==◌}
use Rattle.std.proofs.lemmas.Fn.{filter_same}
use Rattle.tc_core.proofs.given_up.leave_others.Goals as goal

pub returns-clause-items : goal.returns-clause-items
returns-clause-items c = filter_same _ (λ m. not (m == c.args.number)) _ (λ x b f' k. search rules) _ _ c.retain.ensures.filtered
