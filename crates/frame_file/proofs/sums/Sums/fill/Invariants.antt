use Rattle.std.proofs.Common.{◌-◌, ◌*◌, length}
use Rattle.frame_file.specs.Sums.{AreSums}
use Rattle.frame_file.proofs.sums.Sums.fill.Given as goal

abbrev pub invariant-entries : goal.invariant-entries
invariant-entries l = AreSums l.bytes l.self

abbrev pub decreases-entries : goal.decreases-entries
decreases-entries l = l.blocks * 256 - length l.self.table.items
