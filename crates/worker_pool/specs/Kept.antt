-- What the locked value keeps of the calls, of the log and of the state handed in.
use Rattle.std.specs.Prelude.{◌≡◌, ◌+◌, ◌<◌, ◌≤◌, ℕ, List, [], ◌∷◌, Bool, length, count_by, Option, Some, None, slice_get}
use Rattle.tc_log.specs.declared.event.Event.{Event}
use Rattle.tc_log.specs.declared.event.Event.TheVariants.{Admit, End}
use Rattle.history.specs.Calls.{admitted}
use Rattle.history.specs.Calls as named
use Rattle.history.specs.Places.{StandsAt, Begins}
use Rattle.transactions.specs.Standing.{Standing, standing}
use Rattle.tc_core.specs.Core.{Core}
use Rattle.tc_core.specs.Admission.{call_of, Takes}
use Rattle.tc_core.specs.declared.state.Call.{Call}
use Rattle.tc_core.specs.declared.state.TxnId.{TxnId}
use Rattle.worker_pool.specs.declared.answer.Progress.{Progress}
use Rattle.worker_pool.specs.declared.answer.Progress.TheVariants.{Waiting, Begun, Answered}
use Rattle.worker_pool.specs.Answers.{place_of, is_some, IsAdmitted, StaysBut, AnswerFits}
use Rattle.worker_pool.specs.Restarts.{StaysKnown}

-- how many transactions ended
abbrev pub ends : List Event → ℕ
ends [] = 0
ends (End t o ∷ h) = ends h + 1
ends (_ ∷ h) = ends h

abbrev pub serial_of : Option TxnId → Option ℕ
serial_of None = None
serial_of (Some t) = Some t.serial

-- the transaction of a call, if it was admitted
abbrev pub txn_of : Progress → Option ℕ
txn_of Waiting = None
txn_of (Begun t) = Some t.serial
txn_of (Answered a t) = serial_of t

-- the place that its answer names, if it has one
abbrev pub place_in : Progress → Option ℕ
place_in Waiting = None
place_in (Begun t) = None
place_in (Answered a t) = place_of a

abbrev pub is_placed : Progress → Bool
is_placed p = is_some (place_in p)

pub record IsOpen (h : List Event) (t : ℕ) : Type 0 where
  pub s : Standing
  pub is : standing h t ≡ Some s

-- its call was admitted behind the first log, and it is open
pub record IsBegun (start : Core) (h : List Event) (c : named.Call) (t : ℕ) : Type 0 where
  pub takes : Takes start c
  pub admitted : IsAdmitted start.events h c t
  pub still : IsOpen h t

-- what is known of a call that has come so far
abbrev pub Fits : Core → Core → named.Call → Progress → Type 0
Fits start now c Waiting = Unit {0}
Fits start now c (Begun t) = IsBegun start now.events c t.serial
Fits start now c (Answered a t) = AnswerFits start now c a (serial_of t)

-- the call in this place of the list was admitted as the transaction
pub record IsAdmittedFor (calls : List Call) (ps : List Progress) (t proc : ℕ) (args : List ℕ) : Type 0 where
  pub k : ℕ
  pub progress : Progress
  pub at : slice_get ps k ≡ Some progress
  pub own : txn_of progress ≡ Some t
  pub c : Call
  pub of : slice_get calls k ≡ Some c
  pub same : call_of c ≡ record { proc = proc; args = args }

pub record Keeps (start : Core) (calls : List Call) (state : Core) (ps : List Progress) : Type 0 where
  pub stays : StaysBut start state
  pub begins : Begins start.events state.events
  pub restarts : StaysKnown start state
  pub one_each : length ps ≡ length calls
  pub fits : (k : ℕ) (p : Progress) (c : Call) → slice_get ps k ≡ Some p → slice_get calls k ≡ Some c → Fits start state (call_of c) p
  pub recent : (k : ℕ) (p : Progress) (t : ℕ) → slice_get ps k ≡ Some p → txn_of p ≡ Some t → t ≤ admitted state.events
  pub own : (i j : ℕ) (p q : Progress) (t : ℕ) → slice_get ps i ≡ Some p → slice_get ps j ≡ Some q → txn_of p ≡ Some t →
      txn_of q ≡ Some t → i ≡ j
  pub known : (place t proc : ℕ) (args : List ℕ) → length start.events ≤ place
      → StandsAt state.events place (Admit t proc args) → IsAdmittedFor calls ps t proc args
  pub below : (k : ℕ) (p : Progress) (place : ℕ) → slice_get ps k ≡ Some p → place_in p ≡ Some place → place < length state.events
  pub places : (i j : ℕ) (p q : Progress) (place : ℕ) → slice_get ps i ≡ Some p → slice_get ps j ≡ Some q
      → place_in p ≡ Some place → place_in q ≡ Some place → i ≡ j
  pub ends_placed : ends state.events ≡ ends start.events + count_by is_placed ps
