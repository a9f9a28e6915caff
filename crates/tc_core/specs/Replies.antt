-- What each call answers, and the state after it, as functions of the state before.
use Rattle.std.specs.Prelude.{◌≡◌, ℕ, ◌+◌, Bool, true, false, ◌&&◌, ◌==◌, ◌∷◌, length, Option, Some, None, Result, Ok, Err}
use Rattle.access_slots.specs.Access.{fits}
use Rattle.access_slots.specs.declared.op.Reply.{Reply}
use Rattle.access_slots.specs.declared.op.Said.{Said}
use Rattle.tc_log.specs.declared.event.Event.{Event}
use Rattle.tc_log.specs.declared.event.Event.TheVariants.{Ask, Answer, Undo, End}
use Rattle.history.specs.Flight.{given}
use Rattle.transactions.specs.declared.Redoing.{Redoing}
use Rattle.transactions.specs.declared.Site.{Site}
use Rattle.transactions.specs.InFlight.{site_of}
use Rattle.transactions.specs.declared.Sent.{Sent}
use Rattle.transactions.specs.declared.Next.{Next}
use Rattle.transactions.specs.declared.Next.TheVariants as next
use Rattle.transactions.specs.Standing.{Standing, standing}
use Rattle.transactions.specs.Next.{next_in}
use Rattle.tc_core.specs.Core.{Core, Asking}
use Rattle.tc_core.specs.Doubts.{given_up_behind}
use Rattle.tc_log.specs.declared.event.Outcome.{Outcome}
use Rattle.tc_log.specs.declared.event.Outcome.TheVariants as outcome
use Rattle.tc_core.specs.declared.state.Receipt.{Receipt}
use Rattle.tc_core.specs.declared.state.NotOver.{NotOver}
use Rattle.tc_core.specs.declared.state.Asked.{Asked}
use Rattle.tc_core.specs.declared.state.Asked.TheVariants.{Request, Undoing, Over, Stuck, Waits, Running, Unknown}

-- what is done with one more event: a number that is answered isn't given up any more
abbrev pub with_event : Core → Event → Core
with_event c e = record c { events = e ∷ c.events; given_up = given_up_behind e c.given_up }

-- what the transaction does next, where it is open
unfoldable pub next_at : Core → ℕ → Option Next
next_at c t = next_in c.procs (standing c.events t)

abbrev pub asked_by : ℕ → ℕ → Option Next → Asked
asked_by t last None = Unknown
asked_by t last (Some (next.Waits n)) = Waits n
asked_by t last (Some (next.Asks o)) = Request (record { txn = t; number = last + 1; op = o })
asked_by t last (Some (next.Undoes o)) = Undoing
asked_by t last (Some (next.Stuck n)) = Stuck n
asked_by t last (Some (next.Over o)) = Over

-- what `ask` answers
abbrev pub ask_reply : Core → ℕ → Asked
ask_reply c t = asked_by t (given c.events) (next_at c t)

-- the state after `ask` gave this answer
abbrev pub after_ask : Core → Asked → Core
after_ask c (Request r) = with_event c (Ask r.txn r.number r.op)
after_ask c Undoing = c
after_ask c Over = c
after_ask c (Stuck n) = c
after_ask c (Waits n) = c
after_ask c Running = c
after_ask c Unknown = c

abbrev pub is_up : Option Redoing → Bool
is_up None = true
is_up (Some redo) = false

-- the reply is of the known incarnation of a data component that is up
abbrev pub is_heard : Site → Reply → Bool
is_heard s x = is_up s.redo && (s.incarnation == x.incarnation)

-- the request is open here, its data component is up, the incarnations and the numbers agree and the answer fits
pub record IsAnswer (c : Core) (r : Asking) (x : Reply) : Type 0 where
  pub s : Standing
  pub is : standing c.events r.txn ≡ Some s
  pub sent : Sent
  pub waits : s.sent ≡ Some sent
  pub same_number : sent.number ≡ r.number
  pub same_op : sent.op ≡ r.op
  pub heard : is_heard (site_of c.sites r.op) x ≡ true
  pub agree : x.number ≡ r.number
  pub fit : fits r.op x.said ≡ true

abbrev pub after_answer : Core → Asking → Said → Core
after_answer c r said = with_event c (Answer r.txn r.number said)

abbrev pub over_in : Option Next → Option Outcome
over_in None = None
over_in (Some (next.Waits n)) = None
over_in (Some (next.Asks o)) = None
over_in (Some (next.Undoes o)) = None
over_in (Some (next.Stuck n)) = None
over_in (Some (next.Over o)) = Some o

-- what `end` ends a transaction with, if it may end
abbrev pub end_of : Core → ℕ → Option Outcome
end_of c t = over_in (next_at c t)

abbrev pub end_reply : Core → ℕ → Option Outcome → Result Receipt NotOver
end_reply c t None = Err (record {})
end_reply c t (Some o) = Ok (record { place = length c.events; txn = t; outcome = o })

abbrev pub after_end : Core → ℕ → Option Outcome → Core
after_end c t None = c
after_end c t (Some o) = with_event c (End t o)

-- one that has committed isn't to be undone
abbrev pub undone : Outcome → Asked
undone outcome.Committed = Running
undone (outcome.Aborted v) = Over
undone outcome.NoRoom = Over

abbrev pub undo_by : ℕ → ℕ → Option Next → Asked
undo_by t last None = Unknown
undo_by t last (Some (next.Waits n)) = Waits n
undo_by t last (Some (next.Asks o)) = Running
undo_by t last (Some (next.Undoes o)) = Request (record { txn = t; number = last + 1; op = o })
undo_by t last (Some (next.Stuck n)) = Stuck n
undo_by t last (Some (next.Over o)) = undone o

-- what `undo_next` answers
abbrev pub undo_reply : Core → ℕ → Asked
undo_reply c t = undo_by t (given c.events) (next_at c t)

abbrev pub after_undo : Core → Asked → Core
after_undo c (Request r) = with_event c (Undo r.txn r.number r.op)
after_undo c Undoing = c
after_undo c Over = c
after_undo c (Stuck n) = c
after_undo c (Waits n) = c
after_undo c Running = c
after_undo c Unknown = c
