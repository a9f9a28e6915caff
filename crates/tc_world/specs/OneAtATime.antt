-- A world as one in which calls are run one after another.
use Rattle.std.specs.Prelude.{◌≡◌, ℕ, Bool, true, false, List, Some, None, slice_get}
use Rattle.std.specs.List.{All}
use Rattle.access_slots.specs.declared.slot.Record.{Record}
use Rattle.access_slots.specs.declared.op.Op.{Op}
use Rattle.access_slots.specs.declared.op.Said.{Said}
use Rattle.data_component.specs.Performed.{Performed, value_in, said_under}
use Rattle.data_component.specs.Store.{Store}
use Rattle.transactions.specs.InFlight.{site_at}
use Rattle.history.specs.Redo.{is_done}
use Rattle.serial.specs.Serial.{serial_from, done, EndsAsSerialFrom, IsUnwritten}
use Rattle.serial.specs.Audit.{base_of}
use Rattle.serial.specs.Lists.{logged, dc_of, NoTwice, InStep}
use Rattle.tc_world.specs.Whole.{Whole}
use Rattle.tc_world.specs.declared.step.Step.{Step}
use Rattle.tc_world.specs.declared.step.Step.TheVariants as step

abbrev pub is_forge : Step → Bool
is_forge (step.Admit call) = false
is_forge (step.Ask t) = false
is_forge (step.Undo t) = false
is_forge (step.End t) = false
is_forge (step.Resend t) = false
is_forge (step.Perform i) = false
is_forge (step.Take i) = false
is_forge (step.Restart d) = false
is_forge (step.Forge x) = true
is_forge (step.Checkpoint d) = false
is_forge (step.Tell i) = false
is_forge (step.Redo d) = false
is_forge (step.Crash events) = false
is_forge step.Cut = false

-- no reply is forged
abbrev pub NoForge : List Step → Type 0
NoForge xs = All (λ (x : Step). is_forge x ≡ false) xs

-- data component d, which is s, is up, and its incarnation is the one that is known
pub record IsKnown (w : Whole) (d : ℕ) (s : Store) : Type 0 where
  pub up : (site_at w.core.sites d).redo ≡ None
  pub now : (site_at w.core.sites d).incarnation ≡ s.incarnation

-- each data component is so
abbrev pub EachIsKnown : Whole → Type 0
EachIsKnown w = (d : ℕ) (s : Store) → slice_get w.dcs d ≡ Some s → IsKnown w d s

pub record IsOneAtATime (w : Whole) : Type 0 where
  -- each call that was committed or aborted ended as it does when calls are run one after another, from the records with which data
  -- components begin
  pub answers : EndsAsSerialFrom w.core.procs (base_of w.dcs) w.core.events
  -- each record that no open transaction may write has the value at its data component that these calls leave
  pub values : (d : ℕ) (s : Store) (r : Record) → slice_get w.dcs d ≡ Some s → IsKnown w d s → r.dc ≡ d
      → IsUnwritten w.core.procs w.core.events r → value_in s.base s.list r ≡ serial_from w.core.procs (base_of w.dcs) w.core.events r
  -- each operation that was answered is one of a data component that is there
  pub there : (n : ℕ) (o : Op) (said : Said) → logged w.core.events n ≡ Some o → said_under (done w.core.events) n ≡ Some said
      → (s : Store) × (slice_get w.dcs (dc_of o) ≡ Some s)
  -- each that was done stands in its list, with its answer
  pub stands : (d : ℕ) (s : Store) (n : ℕ) (o : Op) (said : Said) → slice_get w.dcs d ≡ Some s → IsKnown w d s → dc_of o ≡ d
      → logged w.core.events n ≡ Some o → said_under (done w.core.events) n ≡ Some said → is_done said ≡ true
      → said_under s.list n ≡ Some said
  -- whether it is up or not: no number stands twice
  pub once : (d : ℕ) (s : Store) → slice_get w.dcs d ≡ Some s → NoTwice s.list
  -- and each number in a list was asked or undone at that data component with that operation
  pub asked : (d : ℕ) (s : Store) (k : ℕ) (e : Performed) → slice_get w.dcs d ≡ Some s → slice_get s.list k ≡ Some e
      → (logged w.core.events e.0 ≡ Some e.1) × (dc_of e.1 ≡ d)
  -- of each record the operations done are the log's, in the order of numbers, and then at most one of an open number
  pub between : (d : ℕ) (s : Store) (r : Record) → slice_get w.dcs d ≡ Some s → IsKnown w d s → r.dc ≡ d → InStep w.core.events s.list r
