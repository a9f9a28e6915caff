-- What an acknowledgement says of a call.
use Rattle.std.specs.Prelude.{◌≡◌, ◌+◌, ◌≤◌, ◌++◌, ℕ, List, length, Option, Some, slice_get}
use Rattle.tc_log.specs.declared.event.Event.{Event}
use Rattle.history.specs.Places.{Begins}
use Rattle.tc_core.specs.Core.{Core}
use Rattle.tc_core.specs.Admission.{call_of}
use Rattle.tc_core.specs.declared.state.Call.{Call}
use Rattle.worker_pool.specs.declared.answer.Answer.{Answer}
use Rattle.worker_pool.specs.Answers.{StaysBut, AnswerFits}

-- what contracts see of an acknowledgement: the call's place in the list, its answer, and how many events the log had when that stood
pub record Acknowledged : Type 0 where
  pub call : ℕ
  pub answer : Answer
  pub logged : ℕ

-- at a moment of the run, when its log had so many events, this answer of the call in this place of the list was so
pub record WasAnswered (start : Core) (calls : List Call) (k : ℕ) (answer : Answer) (logged : ℕ) : Type 0 where
  pub c : Call
  pub of : slice_get calls k ≡ Some c
  pub then : Core
  pub stays : StaysBut start then
  pub begins : Begins start.events then.events
  pub count : length then.events ≡ logged
  pub txn : Option ℕ
  pub fits : AnswerFits start then (call_of c) answer txn

-- behind whatever the journal had kept before the run it has kept further events: with those of the first log as many as these, or more
pub record IsKept (kept before : List Event → Type 0) (first : List Event) (logged : ℕ) : Type 0 where
  pub behind : List Event
  pub enough : logged ≤ length first + length behind
  pub has : (events : List Event) → before events → kept (events ++ behind)
