use Rattle.std.proofs.Common.{rules, sym, ◌∙◌}
use Rattle.tc_core.proofs.FollowLemmas.{end_else, end_never}
use Rattle.tc_core.proofs.state.TcState.follow_end.Goals as goal

pub returns-in-Err-clause-illegal : goal.returns-in-Err-clause-illegal
returns-in-Err-clause-illegal c not can = end_never c.args.self.now c.args.txn c.args.outcome c.in-Err.field-0 (sym c.in-Err.is ∙ c.end.ensures.reply) can

pub returns-in-Ok-clause-illegal : goal.returns-in-Ok-clause-illegal
returns-in-Ok-clause-illegal c not can =
    end_else c.args.self.now c.args.txn c.args.outcome c.in-Ok.receipt (sym c.in-Ok.is ∙ c.end.ensures.reply) (λ same. search rules) can
