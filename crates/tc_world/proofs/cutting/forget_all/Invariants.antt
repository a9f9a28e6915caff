use Rattle.tc_world.proofs.CutLemmas.{AreForgottenTo}
use Rattle.tc_world.proofs.cutting.forget_all.Given as goal

abbrev pub invariant-loop-d : goal.invariant-loop-d
invariant-loop-d l = AreForgottenTo l.low_water l.state.sites l.d l.fn.dcs.items l.dcs.items
