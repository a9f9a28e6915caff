-- A state that comes back from what was written, and its open requests made again.
use Rattle.std.specs.Prelude.{◌≡◌, ◌≢◌, ℕ, ◌-◌, ◌<◌, Bool, true, false, nat_le, List, [], map, length, drop, Option, Some, None, slice_get}
use Rattle.tc_log.specs.declared.event.Event.{Event}
use Rattle.history.specs.Anew.{begun}
use Rattle.transactions.specs.declared.Sent.{Sent}
use Rattle.transactions.specs.declared.Site.{Site}
use Rattle.transactions.specs.InFlight.{untold}
use Rattle.transactions.specs.Legal.{Legal}
use Rattle.transactions.specs.Standing.{Standing, standing}
use Rattle.tc_core.specs.Core.{Core, Asking}
use Rattle.tc_core.specs.Checking.{IsFault}
use Rattle.tc_core.specs.Redo.{down_by}
use Rattle.tc_core.specs.declared.recovery.SiteNote.{SiteNote}
use Rattle.tc_core.specs.declared.recovery.SiteNote.TheVariants.{Untold, Restarted, Up}
use Rattle.tc_core.specs.declared.recovery.RecoverFault.{RecoverFault}
use Rattle.tc_core.specs.declared.recovery.RecoverFault.TheVariants.{Begun, DcCount, Unfit, Forgotten}

-- what is known of a data component of which this was written last
abbrev pub site_noted : SiteNote → Site
site_noted Untold = untold
site_noted (Restarted news) = down_by news
site_noted (Up n) = record { incarnation = n; redo = None }

-- the first so many events of a log, of which the newest stands first
abbrev pub first_events : ℕ → List Event → List Event
first_events n h = drop (length h - n) h

-- the same procedures behind this log, and data components as they were noted; nothing is given up
abbrev pub recovered : Core → List Event → List SiteNote → Core
recovered c h notes = record c { events = h; given_up = []; sites = map site_noted notes }

-- what a data component lost can be redone from a log that begins behind this number: it restarted from a mark no lower
abbrev pub reaches : ℕ → SiteNote → Bool
reaches from Untold = true
reaches from (Restarted news) = nat_le from news.mark
reaches from (Up n) = true

-- of each data component it can
abbrev pub AllReach : ℕ → List SiteNote → Type 0
AllReach from notes = (d : ℕ) (note : SiteNote) → slice_get notes d ≡ Some note → reaches from note ≡ true

-- of this data component it can't; of the earlier ones it can
pub record IsForgotten (from : ℕ) (notes : List SiteNote) (d : ℕ) : Type 0 where
  pub note : SiteNote
  pub there : slice_get notes d ≡ Some note
  pub short : reaches from note ≡ false
  pub before : (c : ℕ) (x : SiteNote) → c < d → slice_get notes c ≡ Some x → reaches from x ≡ true

-- the fault is so, of this log and these notes: something has happened here, there is another number of data components, the log isn't
-- legal (want of memory says nothing), or it begins behind what a data component lost
abbrev pub IsRecoverFault : Core → List Event → List SiteNote → RecoverFault → Type 0
IsRecoverFault c h notes Begun = c.events ≢ []
IsRecoverFault c h notes DcCount = length notes ≢ c.dcs
IsRecoverFault c h notes (Unfit fault) = IsFault c.procs h fault
IsRecoverFault c h notes (Forgotten d) = Legal c.procs h × IsForgotten (begun h) notes d

-- what a transaction waits for, where it is open and waits
abbrev pub sent_in : Option Standing → Option Sent
sent_in None = None
sent_in (Some s) = s.sent

abbrev pub asking_by : ℕ → Option Sent → Option Asking
asking_by t None = None
asking_by t (Some r) = Some (record { txn = t; number = r.number; op = r.op })

abbrev pub asking_in : ℕ → Option Standing → Option Asking
asking_in t None = None
asking_in t (Some s) = asking_by t s.sent

-- the request that the transaction waits for
abbrev pub open_request : Core → ℕ → Option Asking
open_request c t = asking_in t (standing c.events t)
