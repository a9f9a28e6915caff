use Rattle.std.proofs.Common.{◌≡◌, true, false, sym, ◌∙◌}
use Rattle.tc_core.proofs.FollowLemmas.{ask_else, ask_further}
use Rattle.tc_core.proofs.state.TcState.follow_ask.Goals as goal

pub returns-clause-rest : goal.returns-clause-rest
returns-clause-rest c = rw (c.ask-asked.ensures.state) (ask_further c.args.self.now c.ask-asked.result)

pub returns-clause-illegal : goal.returns-clause-illegal
returns-clause-illegal c not can =
    ask_else c.args.self.now c.args.txn c.args.number c.args.op.now c.ask-asked.result c.ask-asked.ensures.reply
    (λ it. (let bad : true ≡ false = sym (c.is_asked.ensures.1 it) ∙ not in cc)) can
