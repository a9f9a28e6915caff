use Rattle.std.proofs.Common.{◌≡◌, ◌++◌, map, drop}
use Rattle.object_procedures.specs.declared.finding.ObjectRefusal.TheVariants.{Unread}
use Rattle.object_procedures.proofs.finding.unread.Given as goal

abbrev pub invariant-faults : goal.invariant-faults
invariant-faults l = l.refusals.items ++ map Unread (drop l.fault-index l.faults) ≡ map Unread l.faults
