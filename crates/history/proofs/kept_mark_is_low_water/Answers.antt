use Rattle.history.proofs.Laws.{mark_is_low_water}
use Rattle.history.proofs.kept_mark_is_low_water.Goals as goal

pub returns : goal.returns
returns c = mark_is_low_water
