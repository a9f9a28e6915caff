use Rattle.tc_world.proofs.LivingLemmas.{living_legal, living_low, living_serial, living_agreed}
use Rattle.tc_world.proofs.recovery.crashes_are_survived.Goals as goal

pub returns-clause-legal : goal.returns-clause-legal
returns-clause-legal c w lived = living_legal w lived

pub returns-clause-marks : goal.returns-clause-marks
returns-clause-marks c w lived = living_low w lived

pub returns-clause-one_at_a_time : goal.returns-clause-one_at_a_time
returns-clause-one_at_a_time c w lived = living_serial w lived

pub returns-clause-agreed : goal.returns-clause-agreed
returns-clause-agreed c w lived each = living_agreed w lived each
