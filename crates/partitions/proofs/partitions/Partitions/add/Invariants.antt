use Rattle.std.proofs.Common.{ℕ, List}
use Rattle.access_slots.specs.Declaration.{Declaration}
use Rattle.partitions.specs.Partitions.{AllReach, ArePartitions, Reaches}
use Rattle.partitions.specs.Joining.Merging.{AreJoined}
use Rattle.partitions.proofs.partitions.Partitions.add.Given as goal

abbrev pub invariant-loop-slot : goal.invariant-loop-slot
invariant-loop-slot l =
    (dcs : ℕ) (decls : List Declaration) → AllReach dcs decls → Reaches dcs l.slots → ArePartitions dcs decls l.fn.self
    → AreJoined dcs decls l.slots l.first l.slot-index l.self
