use Rattle.std.proofs.Common.{◌≡◌, ◌≤◌, take, length, vec_len}
use Rattle.std.specs.Vec.{vec_capacity}
use Rattle.worker_pool.specs.Joining.Seen.{AreToldBy}
use Rattle.worker_pool.proofs.answer.answers_of.Given as goal

abbrev pub invariant-loop-p : goal.invariant-loop-p
invariant-loop-p l = AreToldBy (take l.p-index l.progress) l.answers.items × (vec_len l.answers ≡ l.p-index)
    × (length l.progress ≤ vec_capacity l.answers)
