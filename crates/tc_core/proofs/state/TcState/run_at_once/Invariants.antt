use Rattle.std.proofs.Common.{List}
use Rattle.access_slots.specs.declared.op.Reply.{Reply}
use Rattle.tc_core.specs.AtOnce.{AreAnswered}
use Rattle.tc_core.proofs.state.TcState.run_at_once.Given as goal

abbrev pub invariant-questions : goal.invariant-questions
invariant-questions g l = (xs : List Reply) × AreAnswered l.txn.serial l.fn.self xs l.self
