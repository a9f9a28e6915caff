use Rattle.std.proofs.Common.{subst}
use Rattle.transactions.specs.Legal.{Legal}
use Rattle.serial.proofs.BackLemmas.{legal_first}
use Rattle.tc_world.proofs.ComingBack.{come_back_low}
use Rattle.tc_world.proofs.WrittenLemmas.{again_written}
use Rattle.tc_world.proofs.recovery.comes_back.Goals as goal

pub returns-clause-legal : goal.returns-clause-legal
returns-clause-legal c ps first h legal begins = legal_first ps begins.later first (subst (Legal ps) begins.is legal)

pub returns-clause-marks : goal.returns-clause-marks
returns-clause-marks c w first notes written = come_back_low w first notes written

pub returns-clause-written : goal.returns-clause-written
returns-clause-written c w first notes written = again_written w first notes written
