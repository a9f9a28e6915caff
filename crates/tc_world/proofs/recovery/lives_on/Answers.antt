use Rattle.tc_world.proofs.LivingLemmas.{fresh_lived, loss_lived, crash_lived, over_lived}
use Rattle.tc_world.proofs.recovery.lives_on.Goals as goal

pub returns-clause-fresh : goal.returns-clause-fresh
returns-clause-fresh c w fresh good = fresh_lived w fresh good

pub returns-clause-lost : goal.returns-clause-lost
returns-clause-lost c w xs rs ns wires replies news lived = loss_lived w xs rs ns wires replies news lived

pub returns-clause-back : goal.returns-clause-back
returns-clause-back c w first notes written lived = crash_lived w first notes written lived

pub returns-clause-over : goal.returns-clause-over
returns-clause-over c w first dcs begins new olds lived = over_lived w first dcs begins new olds lived
