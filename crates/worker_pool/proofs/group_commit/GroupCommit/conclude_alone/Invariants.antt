use Rattle.std.proofs.Common.{◌≡◌, Some}
use Rattle.journals.specs.declared.journal.NotKept.{NotKept}
use Rattle.worker_pool.proofs.group_commit.GroupCommit.conclude_alone.Given as goal

abbrev pub invariant-loop : goal.invariant-loop
invariant-loop g l = (l.ready ≡ l.fn.ready) × (l.pool_state ≡ l.fn.pool_state) × ((why : NotKept) → l.fn.self.fault ≡ Some why → l.self ≡ l.fn.self)
