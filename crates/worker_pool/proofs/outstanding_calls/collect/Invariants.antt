use Rattle.std.proofs.Common.{◌≡◌, ◌≤◌, ◌+◌, vec_len, vec_capacity}
use Rattle.worker_pool.proofs.outstanding_calls.collect.Given as goal

abbrev pub invariant-collecting : goal.invariant-collecting
invariant-collecting g l = (vec_len l.back + vec_len l.free ≤ l.place)
    × (vec_capacity l.back ≡ vec_capacity l.fn.back) × (vec_capacity l.free ≡ vec_capacity l.fn.free)
