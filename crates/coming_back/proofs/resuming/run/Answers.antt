use Rattle.coming_back.proofs.MovingLemmas.{moves_then}
use Rattle.coming_back.proofs.resuming.run.Goals as goal

pub returns-in-Some-clause-moves : goal.returns-in-Some-clause-moves
returns-in-Some-clause-moves c = moves_then _ _ _ _ _ _ _ c.loop-resumed.invariant.moves c.go_on.ensures.moves

pub loop-resumed-preserved : goal.loop-resumed-preserved
loop-resumed-preserved c = record {
  moves = moves_then _ _ _ _ _ _ _ c.loop-resumed.invariant.moves c.go_on.ensures.moves;
  open_yet = c.in-None.ensures.still;
}
