use Rattle.worker_pool.proofs.Carrying.{own_flies, redo_flies}
use Rattle.worker_pool.proofs.laws.carried_is_in_flight.Goals as goal

pub returns-clause-own : goal.returns-clause-own
returns-clause-own c = own_flies

pub returns-clause-redo : goal.returns-clause-redo
returns-clause-redo c = redo_flies
