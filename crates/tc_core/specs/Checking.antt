-- Whether a log is legal, and where it isn't.
use Rattle.std.specs.Prelude.{ℕ, List}
use Rattle.tc_log.specs.declared.event.Event.{Event}
use Rattle.verifier.specs.Checked.{Checked}
use Rattle.history.specs.Places.{StandsAt}
use Rattle.transactions.specs.Legal.{Legal, Allowed}
use Rattle.tc_core.specs.declared.checking.CheckFault.{CheckFault}
use Rattle.tc_core.specs.declared.checking.CheckFault.TheVariants.{LogIllegal, Memory}

-- the first event that isn't allowed behind the ones before it
pub record IsFirstIllegal (ps : List Checked) (h : List Event) (place : ℕ) : Type 0 where
  pub e : Event
  pub stands : StandsAt h place e
  pub before : Legal ps stands.earlier
  pub illegal : Allowed ps stands.earlier e → ⊥

-- the fault is so; want of memory says nothing of the log
abbrev pub IsFault : List Checked → List Event → CheckFault → Type 0
IsFault ps h (LogIllegal place) = IsFirstIllegal ps h place
IsFault ps h Memory = Unit {0}
