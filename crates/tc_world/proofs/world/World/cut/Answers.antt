use Rattle.std.proofs.Common.{sym, subst}
use Rattle.tc_core.specs.Core.{Core}
use Rattle.tc_world.specs.Waiting.{AreWaiting}
use Rattle.tc_world.proofs.CutSteps.{waiting_anew}
use Rattle.tc_world.proofs.world.World.cut.Goals as goal
use Rattle.tc_world.proofs.world.World.cut.Goals.{in-Ok, in-Err}

pub invariant_of-self : goal.invariant_of-self
invariant_of-self c =
    let inside = c.self.inside in
    elim c.match-cut.branch [
      | in-Ok w ↦
          subst (λ (x : Core). AreWaiting inside.requests.items x.events) (sym w.in-Ok.ensures.cut.next)
          (waiting_anew inside.state.procs inside.state.events inside.requests.items c.known.ensures.legal w.in-Ok.ensures.cut.may.rest c.self.invariant)
      | in-Err w ↦ subst (λ (x : Core). AreWaiting inside.requests.items x.events) (sym w.in-Err.ensures.state) c.self.invariant
    ]
