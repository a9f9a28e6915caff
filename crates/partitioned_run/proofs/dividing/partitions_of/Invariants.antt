use Rattle.std.proofs.Common.{map, take}
use Rattle.partitions.specs.Partitions.{ArePartitions}
use Rattle.partitioned_run.specs.Partitioned.{decl_of}
use Rattle.partitioned_run.proofs.dividing.partitions_of.Given as goal

abbrev pub invariant-procedures : goal.invariant-procedures
invariant-procedures l = ArePartitions l.procs.dcs (map decl_of (take l.number l.procs.codes)) l.partitions
