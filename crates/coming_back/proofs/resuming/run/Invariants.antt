use Rattle.coming_back.specs.Joining.Moving.{Moves, IsOpen, left_of}
use Rattle.coming_back.proofs.resuming.run.Given as goal

abbrev pub invariant-loop-resumed : goal.invariant-loop-resumed
invariant-loop-resumed l = record {
  moves : Moves l.txn.serial l.fn.state l.fn.dcs l.state l.dcs;
  open_yet : IsOpen l.state l.txn.serial;
}

abbrev pub decreases-loop-resumed : goal.decreases-loop-resumed
decreases-loop-resumed l = left_of l.state l.txn.serial
