use Rattle.std.proofs.Common.{◌≡◌, take}
use Rattle.history.specs.Flight.{low_water}
use Rattle.tc_world.specs.Cutting.{marks_from}
use Rattle.tc_world.proofs.cutting.kept_marks.Given as goal

abbrev pub invariant-loop-d : goal.invariant-loop-d
invariant-loop-d l = l.marks.items ≡ marks_from (low_water l.state.events) l.state.sites 0 (take l.d l.dcs)
