-- Whether a log's next event is taken in.
use Rattle.std.specs.Prelude.{◌≡◌, ℕ, ◌==◌, if◌then◌else◌, List, Option, Some, None}
use Rattle.access_slots.specs.declared.op.Op.{Op}
use Rattle.tc_log.specs.declared.event.Event.{Event}
use Rattle.verifier.specs.Checked.{Checked}
use Rattle.transactions.specs.declared.Sent.{Sent}
use Rattle.transactions.specs.Legal.{Allowed}
use Rattle.transactions.specs.Standing.{Standing}
use Rattle.transactions.specs.declared.Site.{Site}
use Rattle.transactions.specs.InFlight.{untold, site_at}
use Rattle.tc_core.specs.Core.{Core, Asking}
use Rattle.tc_core.specs.declared.state.Asked.{Asked}
use Rattle.tc_core.specs.declared.state.Asked.TheVariants as reply
use Rattle.tc_core.specs.declared.checking.Unlike.{Unlike}
use Rattle.tc_core.specs.declared.checking.Unlike.TheVariants.{Illegal, Memory}

-- it is a request under this number with this operation
pub record IsRequest (r : Asking) (n : ℕ) (o : Op) : Type 0 where
  pub number : r.number ≡ n
  pub op : r.op ≡ o

abbrev pub IsAsked : Asked → ℕ → Op → Type 0
IsAsked (reply.Request r) n o = IsRequest r n o
IsAsked reply.Undoing n o = ⊥
IsAsked reply.Over n o = ⊥
IsAsked (reply.Stuck m) n o = ⊥
IsAsked (reply.Waits m) n o = ⊥
IsAsked reply.Running n o = ⊥
IsAsked reply.Unknown n o = ⊥

-- the operation of what is awaited, where it is awaited under this number
abbrev pub awaited_by : Option Sent → ℕ → Option Op
awaited_by None n = None
awaited_by (Some r) n = if r.number == n then Some r.op else None

abbrev pub awaited_in : Option Standing → ℕ → Option Op
awaited_in None n = None
awaited_in (Some s) n = awaited_by s.sent n

-- why the event isn't taken in: it isn't allowed there, or memory ran out
abbrev pub IsUnlike : List Checked → List Event → Event → Unlike → Type 0
IsUnlike ps h e Illegal = Allowed ps h e → ⊥
IsUnlike ps h e Memory = Unit {0}

-- nothing is told of any data component
abbrev pub AreUntold : List Site → Type 0
AreUntold sites = (d : ℕ) → site_at sites d ≡ untold

-- the same state but for what happened
abbrev pub IsFurther : Core → Core → Type 0
IsFurther c c' = c' ≡ record c { events = c'.events }
