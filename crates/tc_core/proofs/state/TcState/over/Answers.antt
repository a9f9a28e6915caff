use Rattle.std.proofs.Common.{◌∙◌, ap, length}
use Rattle.std.proofs.lemmas.List.{length-replicate}
use Rattle.tc_core.proofs.state.TcState.over.Goals as goal

pub invariant_of-result : goal.invariant_of-result
invariant_of-result c = (
  c.in-Ok.ensures.kept _ c.known.ensures.good,
  ap length c.in-Ok.ensures.sites ∙ (length-replicate _ _ ∙ c.dcs.ensures),
)
