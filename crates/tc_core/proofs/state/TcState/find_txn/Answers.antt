use Rattle.std.proofs.Common.{refl, ap}
use Rattle.std.specs.Prelude.{is_some}
use Rattle.tc_core.proofs.KeptLemmas.{places-absent, seen}
use Rattle.tc_core.proofs.state.TcState.find_txn.Goals as goal

pub returns-in-Some-clause-found : goal.returns-in-Some-clause-found
returns-in-Some-clause-found c =
    let at = c.in-Some.ensures.found in
    let w = seen _ _ _ _ _ _ _ _ _ _ at.tx c.self.invariant.0.kept at.found at.serial in
    (refl, rw (← c.self.view_is) (ap is_some w.is))

pub returns-in-None-clause-absent : goal.returns-in-None-clause-absent
returns-in-None-clause-absent c = rw (← c.self.view_is) (places-absent _ _ _ c.self.invariant.0.kept.places _ c.in-None.ensures.absent)
