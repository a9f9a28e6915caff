-- What was answered, and which operations of a data component that lost some are sent to it again (Lomet, Fekete, Weikum, Zwilling,
-- CIDR 2009: redo by the transaction component, in the order of request IDs).
use Rattle.std.specs.Prelude.{◌≡◌, ℕ, zero, suc, ◌+◌, ◌-◌, ◌<◌, Bool, true, false, ◌&&◌, ◌==◌, if◌then◌else◌, List, [], ◌∷◌, Option, Some, None}
use Rattle.access_slots.specs.Locks.{target}
use Rattle.access_slots.specs.declared.op.Op.{Op}
use Rattle.access_slots.specs.declared.op.Said.{Said}
use Rattle.access_slots.specs.declared.op.Said.TheVariants.{Done}
use Rattle.tc_log.specs.declared.event.Event.{Event}
use Rattle.tc_log.specs.declared.event.Event.TheVariants.{Answer}
use Rattle.history.specs.Flight.{Flight, given, open_op}
use Rattle.history.specs.declared.Answered.{Answered}

abbrev pub with_answer : ℕ → Said → Option Flight → Option Answered
with_answer n said None = None
with_answer n said (Some f) = Some (record { txn = f.txn; number = n; op = f.op; said = said })

-- what was answered under a number
abbrev pub answered : List Event → ℕ → Option Answered
answered [] m = None
answered (Answer t n said ∷ h) m = if n == m then with_answer m said (open_op h m) else answered h m
answered (_ ∷ h) m = answered h m

abbrev pub is_done : Said → Bool
is_done (Done former) = true
is_done _ = false

-- it was done, at this data component
abbrev pub is_done_at : ℕ → Answered → Bool
is_done_at d a = is_done a.said && ((target a.op).dc == d)

abbrev pub if_done_at : ℕ → Option Answered → Option Answered
if_done_at d None = None
if_done_at d (Some a) = if is_done_at d a then Some a else None

-- what was done at this data component under a number
abbrev pub done_at : List Event → ℕ → ℕ → Option Answered
done_at h d n = if_done_at d (answered h n)

abbrev pub or_else : Option Answered → Option Answered → Option Answered
or_else None other = other
or_else (Some a) other = Some a

-- the first among so many numbers above this one
abbrev pub first_done : List Event → ℕ → ℕ → ℕ → Option Answered
first_done h d after zero = None
first_done h d after (suc more) = or_else (done_at h d (after + 1)) (first_done h d (after + 1) more)

-- what is to be redone at this data component behind the last number that was redone: what was done under the least number above it
abbrev pub to_redo : List Event → ℕ → ℕ → Option Answered
to_redo h d redone = first_done h d redone (given h - redone)

-- the same, told without a search
abbrev pub IsToRedo : List Event → ℕ → ℕ → Option Answered → Type 0
IsToRedo h d redone None = (m : ℕ) → redone < m → done_at h d m ≡ None
IsToRedo h d redone (Some a) =
    (redone < a.number) × (done_at h d a.number ≡ Some a) × ((m : ℕ) → redone < m → m < a.number → done_at h d m ≡ None)
