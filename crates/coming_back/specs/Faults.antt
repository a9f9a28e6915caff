-- Why a transaction component doesn't come back.
use Rattle.std.specs.Prelude.{◌≡◌, ◌≢◌, ◌⊎◌, ℕ, ◌≤◌, List, [], length, map, Some, None, slice_get}
use Rattle.tc_log.specs.declared.event.Event.{Event}
use Rattle.data_component.specs.Store.{Store, news_of}
use Rattle.transactions.specs.InFlight.{site_at}
use Rattle.tc_core.specs.Core.{Core}
use Rattle.tc_core.specs.Recovery.{IsRecoverFault}
use Rattle.tc_core.specs.declared.recovery.SiteNote.{SiteNote}
use Rattle.tc_core.specs.declared.recovery.SiteNote.TheVariants.{Restarted}
use Rattle.coming_back.specs.declared.coming.ComeBackFault.{ComeBackFault}
use Rattle.coming_back.specs.declared.coming.ComeBackFault.TheVariants.{Recover, NoRoom, Otherwise, Memory}

-- the state has this log, and nothing was given up; of data components something is known
abbrev pub HasLog : Core → List Event → Core → Type 0
HasLog old h new = new ≡ record old { events = h; given_up = []; sites = new.sites }

-- that each data component has restarted, as it is now
abbrev pub restart_notes : List Store → List SiteNote
restart_notes dcs = map (λ (s : Store). Restarted (news_of s)) dcs

-- the state has the log, and the data component is down
pub record IsDown (old : Core) (h : List Event) (new : Core) (d : ℕ) : Type 0 where
  pub log : HasLog old h new
  pub down : (site_at new.sites d).redo ≢ None

-- the data component has no room for a further operation
pub record IsFull (dcs : List Store) (d : ℕ) : Type 0 where
  pub s : Store
  pub at : slice_get dcs d ≡ Some s
  pub full : s.ops ≤ length s.list

-- the fault is so, of this log and so many data components, and of the state and the data components then: the state is as it was where the
-- log is refused
abbrev pub IsFaultOf : Core → List Event → ℕ → Core → List Store → ComeBackFault → Type 0
IsFaultOf old h count new dcs (Recover fault) = IsRecoverFault old h (restart_notes dcs) fault × (length dcs ≡ count) × (new ≡ old)
IsFaultOf old h count new dcs (NoRoom d) = IsDown old h new d × IsFull dcs d
IsFaultOf old h count new dcs (Otherwise d) = IsDown old h new d
IsFaultOf old h count new dcs Memory = (new ≡ old) ⊎ HasLog old h new
