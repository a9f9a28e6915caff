-- Which wires are carried for a request, and that they are in flight.
use Rattle.std.specs.Prelude.{◌≡◌, ◌⊎◌, ℕ, Option, Ok, IfSome}
use Rattle.access_slots.specs.Locks.{target}
use Rattle.access_slots.specs.declared.op.Wire.{Wire}
use Rattle.transactions.specs.InFlight.{InFlight}
use Rattle.tc_core.specs.Core.{Core, Asking}
use Rattle.tc_core.specs.GivingUp.{IsOpenHere}
use Rattle.tc_core.specs.Lent.{wire_of}
use Rattle.tc_core.specs.Redo.{redo_reply}
use Rattle.tc_core.specs.declared.state.Redo.TheVariants as redo
use Rattle.worker_pool.specs.Journals.{HasGoneOn}
use Rattle.worker_pool.specs.Restarts.{StaysKnown}

-- the request is open in this state, and the wire is what the state makes of it
pub record IsItsOwn (c : Core) (r : Asking) (w : Wire) : Type 0 where
  pub is_open : IsOpenHere c r
  pub made : wire_of c r ≡ Ok w

-- the state gives it as what is to be redone next at the request's data component
abbrev pub IsToRedo : Core → Asking → Wire → Type 0
IsToRedo c r w = redo_reply c (target r.op).dc ≡ redo.Send w

abbrev pub IsCarriedBy : Core → Asking → Wire → Type 0
IsCarriedBy c r w = IsItsOwn c r w ⊎ IsToRedo c r w

-- it is a state of the run that began with the first one: its log goes on from that one's and is legal, and what was known of data
-- components is known still
pub record IsOfRun (start state : Core) : Type 0 where
  pub goes_on : HasGoneOn start state
  pub restarts : StaysKnown start state

-- a state of the run that began with the first one has it carried
pub record IsCarriedFor (start : Core) (r : Asking) (w : Wire) : Type 0 where
  pub state : Core
  pub of_run : IsOfRun start state
  pub carried : IsCarriedBy state r w

-- in this state its operation is in flight under its number
pub record IsInFlight (c : Core) (w : Wire) : Type 0 where
  pub txn : ℕ
  pub flight : InFlight c.events c.sites w.number (record { txn = txn; op = w.op })

-- in a state of the run that began with the first one it was
pub record WasInFlight (start : Core) (w : Wire) : Type 0 where
  pub state : Core
  pub of_run : IsOfRun start state
  pub flight : IsInFlight state w

-- what contracts see of what is on its way: the request, unless nothing is, and what is carried for it
pub record OnItsWay : Type 0 where
  pub request : Option Asking
  pub wire : Wire

-- this state has carried what is on its way, if anything is
abbrev pub IsSentBy : Core → OnItsWay → Type 0
IsSentBy c s = IfSome s.request (λ r. IsCarriedBy c r s.wire)
