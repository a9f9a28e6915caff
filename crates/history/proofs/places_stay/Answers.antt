use Rattle.history.proofs.Placing.{stays}
use Rattle.history.proofs.places_stay.Goals as goal

pub returns : goal.returns
returns c = stays
