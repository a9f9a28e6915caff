use Rattle.tc_core.proofs.FollowLemmas.{answer_further, request}
use Rattle.tc_core.proofs.state.TcState.follow_answer.Goals as goal

pub returns-clause-rest : goal.returns-clause-rest
returns-clause-rest c =
    answer_further c.args.self.now c.answer.new.self (request c.args.txn c.args.number c.in-Some.op) c.args.said c.answer.result c.requires.given_up
    c.answer.ensures.ok c.answer.ensures.err
