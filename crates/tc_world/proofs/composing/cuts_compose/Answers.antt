use Rattle.tc_world.proofs.ComposedLemmas.{living_leaves, living_ends, living_values}
use Rattle.tc_world.proofs.composing.cuts_compose.Goals as goal

pub returns-clause-leaves : goal.returns-clause-leaves
returns-clause-leaves c w v o lived cut r = living_leaves w v o lived cut r

pub returns-clause-ends : goal.returns-clause-ends
returns-clause-ends c w v o lived cut later ends = living_ends w v o lived cut later ends

pub returns-clause-values : goal.returns-clause-values
returns-clause-values c w v o lived cut later r = living_values w v o lived cut later r
