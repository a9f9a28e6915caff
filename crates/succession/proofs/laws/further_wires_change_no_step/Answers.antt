use Rattle.succession.proofs.MoreLemmas.{steps_with}
use Rattle.succession.proofs.laws.further_wires_change_no_step.Goals as goal

pub returns : goal.returns
returns c = steps_with
