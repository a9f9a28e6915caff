use Rattle.std.proofs.Common.{◌≡◌, map, take}
use Rattle.partitioned_run.specs.Partitioned.{partition_of_call}
use Rattle.partitioned_run.proofs.dividing.partitions_of_calls.Given as goal

abbrev pub invariant-loop-call : goal.invariant-loop-call
invariant-loop-call l = l.numbers.items ≡ map (partition_of_call l.partitions l.procs.codes) (take l.call-index l.calls)
