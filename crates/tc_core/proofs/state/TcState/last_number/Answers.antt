use Rattle.std.proofs.Common.{◌∙◌, ap}
use Rattle.history.specs.Flight.{given}
use Rattle.tc_core.specs.Core.{Core}
use Rattle.tc_core.proofs.state.TcState.last_number.Goals as goal

pub returns : goal.returns
returns c = c.last.ensures.value ∙ (c.self.invariant.0.kept.last_is ∙ ap (λ (x : Core). given x.events) c.self.view_is)
