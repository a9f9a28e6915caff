use Rattle.engine_recovery.proofs.BackLemmas.{came_back, at_rest_back, within_back, nothing_since}
use Rattle.engine_recovery.proofs.examples.engines_that_come_back.Goals as goal

pub returns-clause-at_rest : goal.returns-clause-at_rest
returns-clause-at_rest c h rows ops fit = (came_back h rows ops, at_rest_back h rows ops fit)

pub returns-clause-within : goal.returns-clause-within
returns-clause-within c h rows ops fit = (came_back h rows ops, within_back h rows ops fit)

pub returns-clause-since : goal.returns-clause-since
returns-clause-since c h w = nothing_since h w
