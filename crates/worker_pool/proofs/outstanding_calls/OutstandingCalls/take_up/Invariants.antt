use Rattle.std.proofs.Common.{◌≤◌, ◌+◌, vec_len, vec_capacity}
use Rattle.worker_pool.proofs.outstanding_calls.OutstandingCalls.take_up.Given as goal

abbrev pub invariant-taking : goal.invariant-taking
invariant-taking g l = (vec_len l.self-inside.away ≤ l.self-inside.most.away)
    × (vec_len l.self-inside.over ≤ l.self-inside.most.of_a_taking)
    × (vec_len l.self-inside.ready + vec_len l.self-inside.back + vec_len l.self-inside.free ≤ vec_len l.self-inside.away)
    × (l.self-inside.most.away ≤ vec_capacity l.self-inside.away) × (l.self-inside.most.away ≤ vec_capacity l.self-inside.ready)
    × (l.self-inside.most.away ≤ vec_capacity l.self-inside.back) × (l.self-inside.most.away ≤ vec_capacity l.self-inside.free)
    × (l.self-inside.most.of_a_taking ≤ vec_capacity l.self-inside.over)
    × (l.self-inside.most.waiting ≤ vec_capacity l.self-inside.waiting)
