use Rattle.history.proofs.Laws.{open_are_in_flight}
use Rattle.history.proofs.open_numbers_are_in_flight.Goals as goal

pub returns : goal.returns
returns c = open_are_in_flight
