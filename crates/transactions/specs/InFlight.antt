-- What is in flight where data components restart: the operation under an open number of one that is up, and of one that is down
-- the operation under redo alone.
use Rattle.std.specs.Prelude.{◌≡◌, ℕ, Bool, true, false, List, Option, Some, None, slice_get}
use Rattle.access_slots.specs.Locks.{target}
use Rattle.access_slots.specs.declared.op.Op.{Op}
use Rattle.tc_log.specs.declared.event.Event.{Event}
use Rattle.history.specs.Flight.{Flight, open_op}
use Rattle.history.specs.Redo.{to_redo}
use Rattle.history.specs.declared.Answered.{Answered}
use Rattle.transactions.specs.declared.Redoing.{Redoing}
use Rattle.transactions.specs.declared.Site.{Site}

-- nothing was told of it
abbrev pub untold : Site
untold = record { incarnation = 0; redo = None }

abbrev pub site_by : Option Site → Site
site_by None = untold
site_by (Some s) = s

-- what is known of a data component; of one that isn't there, as if nothing was told of it
abbrev pub site_at : List Site → ℕ → Site
site_at sites d = site_by (slice_get sites d)

abbrev pub site_of : List Site → Op → Site
site_of sites o = site_at sites (target o).dc

abbrev pub to_redo_by : List Event → ℕ → Option Redoing → Option Answered
to_redo_by h d None = None
to_redo_by h d (Some r) = to_redo h d r.redone

-- the operation under redo at a data component
abbrev pub under_redo : List Event → List Site → ℕ → Option Answered
under_redo h sites d = to_redo_by h d (site_at sites d).redo

-- its number is open, and its data component is up
pub record IsOpenAtSite (h : List Event) (sites : List Site) (n : ℕ) (f : Flight) : Type 0 where
  pub is_open : open_op h n ≡ Some f
  pub up : (site_of sites f.op).redo ≡ None

-- it is under redo at its data component, which is down
pub record IsUnderRedo (h : List Event) (sites : List Site) (n : ℕ) (f : Flight) : Type 0 where
  pub a : Answered
  pub redo : under_redo h sites (target f.op).dc ≡ Some a
  pub number : a.number ≡ n
  pub txn : a.txn ≡ f.txn
  pub op : a.op ≡ f.op

-- the operation is in flight under this number
pub data InFlight (h : List Event) (sites : List Site) (n : ℕ) (f : Flight) : Type 0 where
  Open : IsOpenAtSite h sites n f → InFlight h sites n f
  Again : IsUnderRedo h sites n f → InFlight h sites n f
