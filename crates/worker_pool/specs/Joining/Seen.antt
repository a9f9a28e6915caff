-- What contracts see of the locked value.
use Rattle.std.specs.Prelude.{◌≡◌, ℕ, List, Bool, map, Option, Some, None, slice_get}
use Rattle.tc_core.specs.Core.{Core}
use Rattle.tc_core.specs.declared.state.TxnId.{TxnId}
use Rattle.worker_pool.specs.declared.answer.Answer.{Answer}
use Rattle.worker_pool.specs.declared.answer.Progress.{Progress}
use Rattle.worker_pool.specs.declared.answer.Progress.TheVariants.{Waiting, Begun, Answered}

pub record Seen : Type 0 where
  pub state : Core
  pub progress : List Progress
  pub is_touched : Bool
  -- a call was refused for want of memory
  pub is_out_of_memory : Bool

-- the call's answer stands
pub record IsAnswered (ps : List Progress) (k : ℕ) : Type 0 where
  pub answer : Answer
  pub txn : Option TxnId
  pub at : slice_get ps k ≡ Some (Answered answer txn)

-- answers stay
abbrev pub AnswersStay : List Progress → List Progress → Type 0
AnswersStay old new = (k : ℕ) → IsAnswered old k → IsAnswered new k

abbrev pub told_by : Progress → Option Answer
told_by Waiting = None
told_by (Begun t) = None
told_by (Answered answer txn) = Some answer

-- the answers of these calls, in order, each of which has one
abbrev pub AreToldBy : List Progress → List Answer → Type 0
AreToldBy ps answers = map told_by ps ≡ map (λ (a : Answer). Some a) answers
