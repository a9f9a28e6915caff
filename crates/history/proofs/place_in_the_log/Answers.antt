use Rattle.history.proofs.Placing.{placed}
use Rattle.history.proofs.place_in_the_log.Goals as goal

pub returns : goal.returns
returns c = placed
