use Rattle.std.proofs.Common.{refl}
use Rattle.transactions.specs.InFlight.{Again}
use Rattle.tc_world.proofs.examples.flights.Goals as goal

pub returns-clause-redone : goal.returns-clause-redone
returns-clause-redone c table key former = Again (record { a = _; redo = refl; number = refl; txn = refl; op = refl })
