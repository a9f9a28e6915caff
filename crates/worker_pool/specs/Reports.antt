-- What a report says of the calls, of the log and of the state handed in.
use Rattle.std.specs.Prelude.{◌≡◌, ◌+◌, ◌≤◌, ℕ, List, length, count_by, Option, Some, slice_get}
use Rattle.tc_log.specs.declared.event.Event.TheVariants.{Admit}
use Rattle.history.specs.Places.{StandsAt, Begins}
use Rattle.transactions.specs.Legal.{Legal}
use Rattle.tc_core.specs.Core.{Core}
use Rattle.tc_core.specs.Admission.{call_of}
use Rattle.tc_core.specs.declared.state.Call.{Call}
use Rattle.worker_pool.specs.declared.answer.Answer.{Answer}
use Rattle.worker_pool.specs.Answers.{place_of, has_place, StaysBut, AnswerFits}
use Rattle.worker_pool.specs.Kept.{ends}

-- the call in this place of the list was admitted as the transaction
pub record IsOfCall (calls : List Call) (txns : List (Option ℕ)) (t proc : ℕ) (args : List ℕ) : Type 0 where
  pub k : ℕ
  pub own : slice_get txns k ≡ Some (Some t)
  pub c : Call
  pub of : slice_get calls k ≡ Some c
  pub same : call_of c ≡ record { proc = proc; args = args }

-- what the answers say, in the order of the calls, with the transaction of each call that was admitted
pub record Tells (start : Core) (calls : List Call) (now : Core) (answers : List Answer) (txns : List (Option ℕ)) : Type 0 where
  -- the log begins with the one handed in
  pub begins : Begins start.events now.events
  -- one answer a call
  pub one_each : length answers ≡ length calls
  pub txn_each : length txns ≡ length calls
  -- each answer is so
  pub fits : (k : ℕ) (a : Answer) (o : Option ℕ) (c : Call) → slice_get answers k ≡ Some a → slice_get txns k ≡ Some o
      → slice_get calls k ≡ Some c → AnswerFits start now (call_of c) a o
  -- no two calls are of one transaction
  pub own : (i j t : ℕ) → slice_get txns i ≡ Some (Some t) → slice_get txns j ≡ Some (Some t) → i ≡ j
  -- each admission behind the first log is a call's
  pub known : (place t proc : ℕ) (args : List ℕ) → length start.events ≤ place → StandsAt now.events place (Admit t proc args)
      → IsOfCall calls txns t proc args
  -- no two answers name one place
  pub places : (i j : ℕ) (a b : Answer) (place : ℕ) → slice_get answers i ≡ Some a → slice_get answers j ≡ Some b
      → place_of a ≡ Some place → place_of b ≡ Some place → i ≡ j
  -- as many answers have a place as transactions ended behind the first log
  pub ends_placed : ends now.events ≡ ends start.events + count_by has_place answers

-- what is reported of calls that were run from this state on
pub record Reports (start : Core) (calls : List Call) (state : Core) (answers : List Answer) : Type 0 where
  -- procedures and all else are those handed in
  pub stays : StaysBut start state
  pub legal : Legal state.procs state.events
  pub txns : List (Option ℕ)
  pub tells : Tells start calls state answers txns
