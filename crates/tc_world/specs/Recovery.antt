-- A world whose transaction component crashes, and comes back from what was written (Lomet, Fekete, Weikum, Zwilling, CIDR 2009: the
-- transaction component's own failure; its log is forced ahead of what data components are sent).
use Rattle.std.specs.Prelude.{◌≡◌, ℕ, ◌≤◌, ◌<◌, ◌==◌, if◌then◌else◌, true, false, List, [], length, map, Option, Some, None, slice_get}
use Rattle.std.specs.List.{All}
use Rattle.access_slots.specs.Locks.{target}
use Rattle.access_slots.specs.declared.slot.Record.{Record}
use Rattle.access_slots.specs.declared.op.Wire.{Wire}
use Rattle.access_slots.specs.declared.op.Reply.{Reply}
use Rattle.access_slots.specs.declared.op.News.{News}
use Rattle.tc_log.specs.declared.event.Event.{Event}
use Rattle.history.specs.Flight.{given, low_water, is_open}
use Rattle.history.specs.Places.{Begins}
use Rattle.history.specs.Anew.{begun}
use Rattle.transactions.specs.declared.Redoing.{Redoing}
use Rattle.transactions.specs.declared.Site.{Site}
use Rattle.transactions.specs.InFlight.{site_at}
use Rattle.data_component.specs.Performed.{Performed}
use Rattle.data_component.specs.Store.{Store, news_of}
use Rattle.serial.specs.Audit.{base_of}
use Rattle.tc_core.specs.declared.recovery.SiteNote.{SiteNote}
use Rattle.tc_core.specs.declared.recovery.SiteNote.TheVariants.{Untold, Restarted, Up}
use Rattle.tc_core.specs.Recovery.{first_events, recovered, site_noted}
use Rattle.tc_world.specs.Whole.{Whole}
use Rattle.tc_world.specs.Marks.{IsLow}

-- what was written of the log, first, gave out the wire's number, answered each number that its mark says was answered, and answered
-- the wire's own where the wire redoes
pub record IsWrittenFor (first : List Event) (x : Wire) : Type 0 where
  pub number : x.number ≤ given first
  pub mark : x.low_water ≤ low_water first
  pub redone : x.redo ≡ true → is_open first x.number ≡ false

-- it gave out each number that the data component has performed, and answered each that its marks say was answered
pub record IsWrittenAt (first : List Event) (s : Store) : Type 0 where
  pub list : All (λ (e : Performed). e.0 ≤ given first) s.list
  pub saved : All (λ (e : Performed). e.0 ≤ given first) s.saved
  pub mark : s.mark ≤ low_water first
  pub saved_mark : s.saved_mark ≤ low_water first

abbrev pub begun_anew : Option Redoing → Option Redoing
begun_anew None = None
begun_anew (Some r) = Some (record { mark = r.mark; redone = r.mark })

-- what is known of a data component, but that its redo begins anew, above its mark
abbrev pub anew : Site → Site
anew t = record { incarnation = t.incarnation; redo = begun_anew t.redo }

-- data component d is up, and is noted as down: that its redo is over isn't written yet, and nothing was sent to it since but what its
-- redo sent
pub record IsNotYetUp (most : ℕ) (w : Whole) (d : ℕ) (t t' : Site) : Type 0 where
  pub up : t.redo ≡ None
  pub mark : ℕ
  pub noted : t' ≡ record { incarnation = t.incarnation; redo = Some (record { mark = mark; redone = mark }) }
  pub low : mark ≤ most
  pub there : (s : Store) × (slice_get w.dcs d ≡ Some s)
  pub again : All (λ (x : Wire). (target x.op).dc ≡ d → x.incarnation ≡ t.incarnation → x.redo ≡ true) w.copies

-- where t is known of data component d, t' was noted of it
pub data IsNoted (low : ℕ) (w : Whole) (d : ℕ) (t t' : Site) : Type 0 where
  Noted : t' ≡ anew t → IsNoted low w d t t'
  NotYetUp : IsNotYetUp low w d t t' → IsNoted low w d t t'

-- what is known of each data component was noted
abbrev pub AreNoted : ℕ → Whole → List SiteNote → Type 0
AreNoted low w notes = (d : ℕ) → IsNoted low w d (site_at w.core.sites d) (site_at (map site_noted notes) d)

-- the log begins with what was written, and what is known of data components was noted; and that tells of all that was carried: of
-- each wire and reply, and of each number and mark at data components, in news and in redo
pub record IsWritten (first : List Event) (notes : List SiteNote) (w : Whole) : Type 0 where
  pub begins : Begins first w.core.events
  pub sites : AreNoted (low_water first) w notes
  pub copies : All (IsWrittenFor first) w.copies
  pub replies : All (λ (x : Reply). x.number ≤ given first) w.replies
  pub stores : All (IsWrittenAt first) w.dcs
  pub news : All (λ (x : ℕ × News). x.1.mark ≤ low_water first) w.news
  pub redo : All (λ (t : Site). IsLow (low_water first) t.redo) w.core.sites

-- the transaction component is one that came back from what was written; data components, and all that was carried, are as they were
abbrev pub come_back : List Event → List SiteNote → Whole → Whole
come_back first notes w = record w { core = recovered w.core first notes }

abbrev pub note_by : ℕ → Option Redoing → SiteNote
note_by incarnation (Some r) = Restarted (record { incarnation = incarnation; mark = r.mark })
note_by incarnation None = if incarnation == 0 then Untold else Up incarnation

-- what is noted of a data component of which this is known
abbrev pub note_of : Site → SiteNote
note_of t = note_by t.incarnation t.redo

-- all that is known of each data component, noted
abbrev pub notes_of : Whole → List SiteNote
notes_of w = map note_of w.core.sites

-- it may crash when so many of its log's first events were written, and all that is known was noted
pub record MayCrash (events : ℕ) (w : Whole) : Type 0 where
  pub inside : events ≤ length w.core.events
  pub written : IsWritten (first_events events w.core.events) (notes_of w) w

-- a data component that has restarted, before which nothing is left but the rows with which it begins, as this log does
pub record IsNew (first : List Event) (s : Store) : Type 0 where
  pub base_mark : s.base_mark ≡ begun first
  pub list : s.list ≡ []
  pub saved : s.saved ≡ []
  pub mark : s.mark ≡ begun first
  pub saved_mark : s.saved_mark ≡ begun first
  pub restarted : 0 < s.incarnation

-- there are as many as those, and they begin with the same records
pub record StandFor (dcs olds : List Store) : Type 0 where
  pub count : length dcs ≡ length olds
  pub rows : (r : Record) → base_of dcs r ≡ base_of olds r

-- the transaction component came back from what was written of its log, and is told of the restarts of these data components; nothing
-- that was carried is left
abbrev pub start_over : List Event → List Store → Whole → Whole
start_over first dcs w = record {
  core = recovered w.core first (map (λ (s : Store). Restarted (news_of s)) dcs);
  dcs = dcs;
  copies = [];
  replies = [];
  news = [];
}
