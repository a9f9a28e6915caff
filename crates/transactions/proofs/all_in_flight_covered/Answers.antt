use Rattle.transactions.proofs.Restarts.{in_flight_covered}
use Rattle.transactions.proofs.all_in_flight_covered.Goals as goal

pub returns : goal.returns
returns c = in_flight_covered
