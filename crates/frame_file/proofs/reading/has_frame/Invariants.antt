use Rattle.std.proofs.Common.{ℕ, ◌<◌, drop}
use Rattle.frame_file.specs.Frame.{NoneStands}
use Rattle.frame_file.specs.Sums.{AreSums}
use Rattle.frame_file.proofs.reading.has_frame.Given as goal

abbrev pub invariant-places : goal.invariant-places
invariant-places l = record {
  none : (at : ℕ) → at < l.place → NoneStands l.number (drop at l.bytes);
  of : AreSums l.bytes l.sums;
}
