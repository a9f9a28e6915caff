use Rattle.engine_recovery.proofs.BackLemmas.{part_torn, hole_torn}
use Rattle.engine_recovery.proofs.examples.appends_that_tear.Goals as goal

pub returns-clause-part : goal.returns-clause-part
returns-clause-part c = part_torn

pub returns-clause-hole : goal.returns-clause-hole
returns-clause-hole c bytes old long = hole_torn bytes old long
