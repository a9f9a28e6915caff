-- Numbers as they stand in a log, oldest event first.
use Rattle.std.specs.Prelude.{◌≡◌, ℕ, ◌+◌, ◌≤◌, ◌==◌, if◌then◌else◌, List, [], ◌∷◌, Option, Some, None}
use Rattle.access_slots.specs.declared.op.Said.{Said}
use Rattle.tc_log.specs.declared.event.Event.{Event}
use Rattle.tc_log.specs.declared.event.Event.TheVariants.{Ask, Answer, Undo, Checkpoint}
use Rattle.history.specs.Flight.{Flight}
use Rattle.history.specs.Redo.{with_answer, if_done_at}
use Rattle.history.specs.declared.Answered.{Answered}
use Rattle.tc_core.specs.Joining.Scanning.{said_in}

-- behind so many numbers, each that is sent is the next one, and those that are answered were sent
abbrev pub AreNumbered : ℕ → List Event → Type 0
AreNumbered k [] = Unit {0}
AreNumbered k (Ask t n o ∷ es) = (n ≡ k + 1) × AreNumbered (k + 1) es
AreNumbered k (Answer t n said ∷ es) = (n ≤ k) × AreNumbered k es
AreNumbered k (Undo t n o ∷ es) = (n ≡ k + 1) × AreNumbered (k + 1) es
AreNumbered k (Checkpoint before numbers ∷ es) = (k ≤ numbers) × AreNumbered numbers es
-- no other has a number
AreNumbered k (_ ∷ es) = AreNumbered k es

-- how many numbers are sent behind these events
abbrev pub sent_by : ℕ → List Event → ℕ
sent_by k [] = k
sent_by k (Ask t n o ∷ es) = sent_by (k + 1) es
sent_by k (Undo t n o ∷ es) = sent_by (k + 1) es
sent_by k (Checkpoint before numbers ∷ es) = sent_by numbers es
-- no other changes the count
sent_by k (_ ∷ es) = sent_by k es

-- what was sent first under the number
abbrev pub sent_in : List Event → ℕ → Option Flight
sent_in [] n = None
sent_in (Ask t m o ∷ es) n = if m == n then Some (record { txn = t; op = o }) else sent_in es n
sent_in (Undo t m o ∷ es) n = if m == n then Some (record { txn = t; op = o }) else sent_in es n
-- no other sends one
sent_in (_ ∷ es) n = sent_in es n

abbrev pub with_said : ℕ → Option Flight → Option Said → Option Answered
with_said n f None = None
with_said n f (Some said) = with_answer n said f

abbrev pub done_in : List Event → ℕ → ℕ → Option Answered
done_in es d n = if_done_at d (with_said n (sent_in es n) (said_in es n))
