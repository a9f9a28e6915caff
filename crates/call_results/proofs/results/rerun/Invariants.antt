use Rattle.std.proofs.Common.{◌≡◌}
use Rattle.transactions.specs.Standing.{standing}
use Rattle.tc_core.specs.Recovery.{first_events}
use Rattle.call_results.specs.Joining.Along.{Follows}
use Rattle.call_results.proofs.results.rerun.Given as goal

abbrev pub invariant-loop-place : goal.invariant-loop-place
invariant-loop-place l = Follows l.procs.codes l.run (standing (first_events l.place l.log.events) l.txn) × (l.run.slot ≡ l.slot)
