use Rattle.std.proofs.Common.{rules}
use Rattle.std.proofs.lemmas.Fn.{filter_same}
use Rattle.request_numbers.proofs.numbers.leave_open.Goals as goal

pub returns-clause-items : goal.returns-clause-items
returns-clause-items c = filter_same _ (λ p. p.is_open) _ (λ x b f' k. search rules) _ _ c.retain.ensures.filtered
