use Rattle.std.proofs.Common.{subst}
use Rattle.transactions.specs.Reached.{AllGood}
use Rattle.tc_core.specs.Loaded.{Loaded}
use Rattle.tc_core.proofs.procs.Procs.known.Goals as goal

pub returns-clause-good : goal.returns-clause-good
returns-clause-good c = subst (λ (l : Loaded). AllGood l.codes) c.self.view_is c.self.invariant.0
