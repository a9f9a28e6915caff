use Rattle.std.proofs.Common.{◌<◌, length}
use Rattle.coming_back.specs.Joining.Redoing.{RedoesAt, IsRedoneTo, left_to_redo}
use Rattle.coming_back.proofs.redoing.redo.Given as goal

abbrev pub invariant-loop-fault : goal.invariant-loop-fault
invariant-loop-fault l = record {
  redoes : RedoesAt l.dc l.fn.state l.fn.dcs l.state l.dcs;
  low : l.dc < length l.state.sites;
  done : IsRedoneTo l.fn.state l.fn.dcs l.dc → IsRedoneTo l.state l.dcs l.dc;
}

abbrev pub decreases-loop-fault : goal.decreases-loop-fault
decreases-loop-fault l = left_to_redo l.state l.dc
