-- Low-water marks in a world (Lomet, Fekete, Weikum, Zwilling, CIDR 2009: LWM).
use Rattle.std.specs.Prelude.{◌≡◌, ℕ, ◌≤◌, ◌<◌, ◌^◌, true, List, [], ◌∷◌, Option, Some, None}
use Rattle.std.specs.List.{All}
use Rattle.access_slots.specs.declared.op.Wire.{Wire}
use Rattle.access_slots.specs.declared.op.News.{News}
use Rattle.tc_log.specs.declared.event.Event.{Event}
use Rattle.tc_log.specs.declared.event.Event.TheVariants.{Checkpoint}
use Rattle.transactions.specs.declared.Redoing.{Redoing}
use Rattle.transactions.specs.declared.Site.{Site}
use Rattle.history.specs.Anew.{begun}
use Rattle.history.specs.Flight.{low_water, is_open}
use Rattle.data_component.specs.Store.{Store}
use Rattle.tc_world.specs.Whole.{Whole}

-- nothing was logged since the log began: it is empty, or a Checkpoint is all of it
pub data HasJustBegun (h : List Event) : Type 0 where
  AtFirst : h ≡ [] → HasJustBegun h
  AtCheckpoint : (before numbers : ℕ) → before ≤ 2 ^ 62 → numbers ≤ 2 ^ 62 → h ≡ Checkpoint before numbers ∷ [] → HasJustBegun h

-- the data component has nothing but the rows with which it begins, behind this number
pub record HasRowsAlone (number : ℕ) (s : Store) : Type 0 where
  pub base_mark : s.base_mark ≡ number
  pub list : s.list ≡ []
  pub saved : s.saved ≡ []
  pub mark : s.mark ≡ number
  pub saved_mark : s.saved_mark ≡ number

-- it isn't down
abbrev pub IsUp : Site → Type 0
IsUp t = t.redo ≡ None

-- nothing has happened since the log began: nothing sent, nothing performed or kept by a checkpoint, no news; each data component begins behind
-- the number behind which the log does, with whatever rows, and none is down
pub record IsFresh (w : Whole) : Type 0 where
  pub events : HasJustBegun w.core.events
  pub copies : w.copies ≡ []
  pub replies : w.replies ≡ []
  pub news : w.news ≡ []
  pub lists : All (λ (d : Store). (d.list ≡ []) × (d.saved ≡ [])) w.dcs
  pub bases : All (λ (d : Store). d.base_mark ≡ begun w.core.events) w.dcs
  pub marks : All (λ (d : Store). (d.mark ≡ begun w.core.events) × (d.saved_mark ≡ begun w.core.events)) w.dcs
  pub up : All (λ (s : Site). s.redo ≡ None) w.core.sites

abbrev pub IsLow : ℕ → Option Redoing → Type 0
IsLow most None = Unit {0}
IsLow most (Some r) = r.mark ≤ most

-- no mark is above the history's: of a wire, of a data component or its last checkpoint, of news, or of a redo
pub record AreMarksLow (w : Whole) : Type 0 where
  pub copies : All (λ (x : Wire). x.low_water ≤ low_water w.core.events) w.copies
  pub dcs : All (λ (d : Store). d.mark ≤ low_water w.core.events) w.dcs
  pub saved : All (λ (d : Store). d.saved_mark ≤ low_water w.core.events) w.dcs
  pub news : All (λ (x : ℕ × News). x.1.mark ≤ low_water w.core.events) w.news
  pub redo : All (λ (s : Site). IsLow (low_water w.core.events) s.redo) w.core.sites

-- each open number is above the mark of each data component
abbrev pub IsOpenAboveMarks : Whole → Type 0
IsOpenAboveMarks w = (n : ℕ) → is_open w.core.events n ≡ true → All (λ (d : Store). d.mark < n) w.dcs
