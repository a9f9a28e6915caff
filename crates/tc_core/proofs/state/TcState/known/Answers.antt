use Rattle.std.proofs.Common.{subst}
use Rattle.transactions.specs.Reached.{AllGood}
use Rattle.tc_core.specs.Core.{Core}
use Rattle.tc_core.proofs.state.TcState.known.Goals as goal

pub returns-clause-good : goal.returns-clause-good
returns-clause-good c = subst (λ (x : Core). AllGood x.procs) c.self.view_is c.known.ensures.good
