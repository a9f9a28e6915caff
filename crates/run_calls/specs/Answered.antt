-- What calls of two lists were answered, and the data components that were served meanwhile.
use Rattle.std.specs.Prelude.{◌≡◌, ◌&&◌, if◌then◌else◌, ℕ, Bool, true, false, List, map, length, Some, slice_get}
use Rattle.std.specs.List.{list_any}
use Rattle.history.specs.Calls as named
use Rattle.data_component.specs.Store.{Store}
use Rattle.scripts.specs.declared.script.Call as said
use Rattle.tc_core.specs.Admission.{call_of}
use Rattle.tc_core.specs.Core.{Core}
use Rattle.tc_core.specs.declared.state.Call.{Call}
use Rattle.worker_pool.specs.Reports.{Reports}
use Rattle.dc_links.specs.Serving.{IsServed}
use Rattle.worker_pool.specs.declared.answer.Answer.{Answer}
use Rattle.worker_pool.specs.declared.answer.Answer.TheVariants.{Committed, Aborted, Refused}
use Rattle.tc_core.specs.declared.state.Refusal.TheVariants as refusal

-- the call that a line of the script says
abbrev pub said_call : said.Call → named.Call
said_call c = record { proc = c.procedure; args = c.args }

-- these are the calls that a list of lines says, in order
abbrev pub AreCallsOf : List said.Call → List Call → Type 0
AreCallsOf lines calls = map call_of calls ≡ map said_call lines

-- the first list leads from the state handed in to another one, the second on from there to the last; each is answered as a report
-- says
pub record AreAnswered (start : Core) (first calls : List Call) (first_answers other_answers : List Answer) (last : Core) : Type 0 where
  pub middle : Core
  pub first_run : Reports start first middle first_answers
  pub calls_run : Reports middle calls last other_answers

-- as many as were served, each at its place: it performed wires for the component with its number, and nothing else happened to it
pub record AreServed (before after : List Store) : Type 0 where
  pub each : length after ≡ length before
  pub served : (number : ℕ) (b a : Store) → slice_get before number ≡ Some b → slice_get after number ≡ Some a → IsServed number b a

-- the call was refused for want of memory, which ends the program
abbrev pub is_want_of_memory : Answer → Bool
is_want_of_memory (Refused refusal.Memory) = true
is_want_of_memory other = false

-- the call was neither committed nor aborted by its procedure
abbrev pub is_failed : Answer → Bool
is_failed (Committed place) = false
is_failed (Aborted value place) = false
is_failed other = true

-- the exit status of calls that were run: 1 where it counts that one of these failed, and one did; else what an audit found counts
abbrev pub run_status : (strict : Bool) → List Answer → (sound : Bool) → ℕ
run_status strict answers sound = if strict && list_any is_failed answers then 1 else (if sound then 0 else 1)
