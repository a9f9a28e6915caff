-- What is noted of a data component.
use Rattle.std.specs.Prelude.{ℕ, zero, suc, Option, Some, None}
use Rattle.tc_core.specs.declared.recovery.SiteNote.{SiteNote}
use Rattle.tc_core.specs.declared.recovery.SiteNote.TheVariants.{Untold, Restarted, Up}
use Rattle.transactions.specs.declared.Redoing.{Redoing}
use Rattle.transactions.specs.declared.Site.{Site}

-- of one that is up, whose incarnation isn't the first, this
abbrev pub up_in : ℕ → SiteNote
up_in zero = Untold
up_in (suc n) = Up (suc n)

abbrev pub known_by : ℕ → Option Redoing → SiteNote
known_by incarnation None = up_in incarnation
known_by incarnation (Some redo) = Restarted (record { incarnation = incarnation; mark = redo.mark })

-- that it is down is noted with the mark from which on it is redone anew, and not how far that is
abbrev pub known_of : Site → SiteNote
known_of s = known_by s.incarnation s.redo
