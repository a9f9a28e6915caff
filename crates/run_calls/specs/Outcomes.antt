-- How a call with an answer came out, and what it does from a stage on, in metrics and traces.
use Rattle.worker_pool.specs.declared.answer.Answer.{Answer}
use Rattle.worker_pool.specs.declared.answer.Answer.TheVariants as answer
use Rattle.worker_pool.specs.declared.stage.Stage.{Stage}
use Rattle.worker_pool.specs.declared.stage.Stage.TheVariants as stage
use Rattle.run_metrics.specs.declared.outcome.Outcome.{Outcome}
use Rattle.run_metrics.specs.declared.outcome.Outcome.TheVariants.{Committed, Aborted, InDoubt, Blocked, Refused}
use Rattle.run_metrics.specs.declared.phase.Phase.{Phase}
use Rattle.run_metrics.specs.declared.phase.Phase.TheVariants.{Waiting, Asking, Carrying, Keeping}

abbrev pub outcome_of : Answer → Outcome
outcome_of (answer.Committed place) = Committed
outcome_of (answer.Aborted value place) = Aborted
outcome_of (answer.NoRoom place) = Aborted
outcome_of (answer.InDoubt number) = InDoubt
outcome_of (answer.Blocked busy) = Blocked
outcome_of (answer.Refused refusal) = Refused

abbrev pub phase_of : Stage → Phase
phase_of stage.Waiting = Waiting
phase_of stage.Carried = Carrying
phase_of stage.CarriedAgain = Carrying
phase_of stage.Back = Asking
phase_of stage.Answered = Keeping
