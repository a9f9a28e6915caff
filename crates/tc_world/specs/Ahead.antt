-- An engine that writes ahead, and is killed now and then (Lomet, Fekete, Weikum, Zwilling, CIDR 2009: the transaction component's log is
-- forced ahead of what data components are sent).
use Rattle.std.specs.Prelude.{◌≡◌, ℕ, List, [], ◌∷◌}
use Rattle.std.specs.List.{All}
use Rattle.access_slots.specs.declared.op.Wire.{Wire}
use Rattle.access_slots.specs.declared.op.Reply.{Reply}
use Rattle.access_slots.specs.declared.op.News.{News}
use Rattle.tc_log.specs.declared.event.Event.{Event}
use Rattle.history.specs.Flight.{low_water}
use Rattle.history.specs.Places.{Begins}
use Rattle.tc_core.specs.declared.recovery.SiteNote.{SiteNote}
use Rattle.tc_world.specs.Whole.{Whole}
use Rattle.tc_world.specs.Recovery.{IsWrittenFor, AreNoted, IsWritten, come_back, notes_of}
use Rattle.tc_world.specs.Lives.{Lives, Takes, Loses}
use Rattle.tc_world.specs.declared.step.Step.{Step}
use Rattle.tc_world.specs.declared.step.Step.TheVariants as step

-- what was written: so much of the log, and these notes of data components
pub record Written : Type 0 where
  pub events : List Event
  pub notes : List SiteNote

-- all of the log, and all that is known
abbrev pub all_written : Whole → Written
all_written w = record { events = w.core.events; notes = notes_of w }

-- it tells of all that was carried
abbrev pub Tells : Written → Whole → Type 0
Tells p w = IsWritten p.events p.notes w

-- behind a step that leaves the log h, more is written than was before, up to somewhere in the log; a log that begins anew is written
-- in place of the other
abbrev pub Grows : Step → List Event → List Event → List Event → Type 0
Grows step.Cut first more h = more ≡ h
Grows other first more h = Begins first more × Begins more h

-- behind the step this is written in place of that, and it tells of each wire that is carried, and of what is known
pub record IsAhead (x : Step) (before after : Written) (w : Whole) : Type 0 where
  pub log : Grows x before.events after.events w.core.events
  pub wires : All (IsWrittenFor after.events) w.copies
  pub notes : AreNoted (low_water after.events) w after.notes

-- what happens to an engine: it takes a step, this is written, and of all messages these are carried from then on, since the others are
-- lost, or not carried yet; or it is killed
pub data Turn : Type 0 where
  Goes : Step → Written → List Wire → List Reply → List (ℕ × News) → Turn
  Killed : Turn

-- one turn after another: it writes ahead of what it carries and makes known, and comes back from what was written when it is killed
abbrev pub WritesAhead : List Turn → Written → Whole → Written → Whole → Type 0
WritesAhead [] p w q v = (q ≡ p) × (v ≡ w)
WritesAhead (Goes x next xs rs ns ∷ turns) p w q v =
    (mid : Whole) × Lives (Takes x ∷ Loses xs rs ns ∷ []) w mid × IsAhead x p next mid × WritesAhead turns next mid q v
WritesAhead (Killed ∷ turns) p w q v = WritesAhead turns p (come_back p.events p.notes w) q v
