-- Open transactions and the locks that they hold (Lomet, Fekete, Weikum, Zwilling, CIDR 2009: the transaction component locks records).
-- A history is a list of events, the newest first.
use Rattle.std.specs.Prelude.{ℕ, ◌+◌, ◌==◌, if◌then◌else◌, List, [], ◌∷◌, Option, Some, None, slice_get}
use Rattle.access_slots.specs.declared.slot.Record.{Record}
use Rattle.access_slots.specs.declared.slot.Mode.{Mode}
use Rattle.access_slots.specs.Declaration.{Declaration}
use Rattle.access_slots.specs.Locks.{mode_named}
use Rattle.access_slots.specs.Held.{Held, Wanted}
use Rattle.tc_log.specs.declared.event.Event.{Event}
use Rattle.tc_log.specs.declared.event.Event.TheVariants.{Admit, Ask, Answer, Undo, End, Checkpoint}

-- a procedure by its number, and its arguments
pub record Call : Type 0 where
  pub proc : ℕ
  pub args : List ℕ

-- the transaction that an event is of
abbrev pub txn_of : Event → ℕ
txn_of (Admit t p args) = t
txn_of (Ask t n o) = t
txn_of (Answer t n said) = t
txn_of (Undo t n o) = t
txn_of (End t o) = t
-- it is of none: serial numbers begin with 1
txn_of (Checkpoint before numbers) = 0

-- how many transactions were admitted
abbrev pub admitted : List Event → ℕ
admitted [] = 0
admitted (Admit t p args ∷ h) = admitted h + 1
admitted (Checkpoint before numbers ∷ h) = before
admitted (_ ∷ h) = admitted h

-- the call of a transaction that is open: admitted, and not ended
abbrev pub open_call : List Event → ℕ → Option Call
open_call [] t = None
open_call (Admit u p args ∷ h) t = if u == t then Some (record { proc = p; args = args }) else open_call h t
open_call (End u o ∷ h) t = if u == t then None else open_call h t
open_call (_ ∷ h) t = open_call h t

-- the call with which a transaction was admitted, whether it ended or not
abbrev pub call_of : List Event → ℕ → Option Call
call_of [] t = None
call_of (Admit u p args ∷ h) t = if u == t then Some (record { proc = p; args = args }) else call_of h t
call_of (_ ∷ h) t = call_of h t

-- the locks of a procedure's call: each record that a slot names, in its greatest mode
abbrev pub locks_by : Option Declaration → List ℕ → Wanted
locks_by None args r = None
locks_by (Some d) args r = mode_named args d.slots r

abbrev pub locks_of : List Declaration → Call → Wanted
locks_of procs call = locks_by (slice_get procs call.proc) call.args

abbrev pub held_for : List Declaration → Option Call → Record → Option Mode
held_for procs None r = None
held_for procs (Some call) r = locks_of procs call r

-- for each open transaction, the locks of its call
abbrev pub held : List Declaration → List Event → Held
held procs h t r = held_for procs (open_call h t) r
