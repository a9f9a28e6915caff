use Rattle.std.proofs.Common.{take}
use Rattle.std.specs.Prelude.{reverse}
use Rattle.partitioned_run.specs.Belonging.{AreEventsOf}
use Rattle.partitioned_run.proofs.belonging.other_of_log.Given as goal

abbrev pub invariant-events : goal.invariant-events
invariant-events l = AreEventsOf l.partitions l.procs.codes l.number (take l.place (reverse l.log.events))
