use Rattle.audit.proofs.NoFaultLemmas.{no_fault}
use Rattle.audit.proofs.laws.agreement_has_no_fault.Goals as goal

pub returns : goal.returns
returns c ps h dcs f legal agreed so = no_fault ps h dcs f legal agreed so
