-- A batch that tells of all that is new.
use Rattle.std.specs.Prelude.{◌≡◌, ℕ, suc, List, [], ◌∷◌, reverse}
use Rattle.std.specs.List.{fold}
use Rattle.tc_log.specs.Reading.{ArePrinted, AreEvents}
use Rattle.history.specs.Places.{Begins}
use Rattle.tc_core.specs.declared.recovery.SiteNote.{SiteNote}
use Rattle.log_file.specs.declared.note.Note.{Note}
use Rattle.log_file.specs.Bytes.{Batch}
use Rattle.log_file.specs.Reading.{IsBatch, with_note}
use Rattle.tc_world.specs.Whole.{Whole}
use Rattle.tc_world.specs.Recovery.{notes_of}

-- from the first world to the second: the rows of the events since, and notes behind which all that is known is noted (events of numbers that
-- machines have)
pub record TellsSince (dcs : ℕ) (w v : Whole) (b : Batch) : Type 0 where
  pub fits : IsBatch dcs b
  pub begins : Begins w.core.events v.core.events
  pub numbers : AreEvents (reverse begins.later)
  pub rows : ArePrinted (reverse begins.later) b.rows
  pub notes : fold with_note (notes_of w) b.notes ≡ notes_of v

-- these are noted of data components from this one on
abbrev pub noted_from : ℕ → List SiteNote → List Note
noted_from d [] = []
noted_from d (known ∷ notes) = record { dc = d; known = known } ∷ noted_from (suc d) notes
