use Rattle.transactions.proofs.Alike.{anew_alike}
use Rattle.transactions.proofs.beginning_anew_is_alike.Goals as goal

pub returns : goal.returns
returns c = anew_alike
