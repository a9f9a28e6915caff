use Rattle.history.proofs.Placing.{starts, begins}
use Rattle.history.proofs.beginning_in_the_log.Goals as goal

pub returns-clause-log : goal.returns-clause-log
returns-clause-log c = starts

pub returns-clause-history : goal.returns-clause-history
returns-clause-history c = begins
