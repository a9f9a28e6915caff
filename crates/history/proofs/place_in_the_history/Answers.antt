use Rattle.history.proofs.Placing.{stands}
use Rattle.history.proofs.place_in_the_history.Goals as goal

pub returns : goal.returns
returns c = stands
