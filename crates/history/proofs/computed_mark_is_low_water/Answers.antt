use Rattle.history.proofs.Laws.{computed_is, low_water_is}
use Rattle.history.proofs.computed_mark_is_low_water.Goals as goal

pub returns-clause-is : goal.returns-clause-is
returns-clause-is c = computed_is

pub returns-clause-only : goal.returns-clause-only
returns-clause-only c = low_water_is
