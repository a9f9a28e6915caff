use Rattle.std.proofs.Common.{◌≡◌, true, false, sym, ◌∙◌}
use Rattle.tc_core.proofs.FollowLemmas.{undo_else, undo_further}
use Rattle.tc_core.proofs.state.TcState.follow_undo.Goals as goal

pub returns-clause-rest : goal.returns-clause-rest
returns-clause-rest c = rw (c.undo_next-asked.ensures.state) (undo_further c.args.self.now c.undo_next-asked.result)

pub returns-clause-illegal : goal.returns-clause-illegal
returns-clause-illegal c not can =
    undo_else c.args.self.now c.args.txn c.args.number c.args.op.now c.undo_next-asked.result c.undo_next-asked.ensures.reply
    (λ it. (let bad : true ≡ false = sym (c.is_asked.ensures.1 it) ∙ not in cc)) can
