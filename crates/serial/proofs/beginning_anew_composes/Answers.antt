use Rattle.serial.proofs.ComposedLemmas.{composed}
use Rattle.serial.proofs.beginning_anew_composes.Goals as goal

pub returns : goal.returns
returns c = composed
