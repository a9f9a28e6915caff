use Rattle.partitioned_run.specs.Joining.Reporting.{AreAllOf}
use Rattle.partitioned_run.proofs.reporting.outcomes_of.Given as goal

abbrev pub invariant-runs : goal.invariant-runs
invariant-runs l =
    (goal.iterator-runs).can_next l.next-iterator ×
    (goal.iterator-runs).is_finite l.next-iterator ×
    AreAllOf l.yielded l.all
