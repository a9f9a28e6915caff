use Rattle.std.proofs.Common.{◌≡◌, [], length}
use Rattle.history.specs.Places.{Begins}
use Rattle.tc_core.specs.Joining.Follows.{AreUntold}
use Rattle.tc_core.proofs.checking.replayed.Given as goal

abbrev pub invariant-loop-place : goal.invariant-loop-place
invariant-loop-place l = (l.state.procs ≡ l.procs.codes) × Begins l.state.events l.log.events
    × (length l.state.events ≡ l.place) × AreUntold l.state.sites × (l.state.given_up ≡ [])
