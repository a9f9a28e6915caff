-- A log that is truncated: it begins anew behind data components that have kept all that they performed, and forgotten it, but for
-- their rows (Lomet, Fekete, Weikum, Zwilling, CIDR 2009: the redo scan start point moves on where data components say that all before is
-- stable).
use Rattle.std.specs.Prelude.{◌≡◌, ℕ, suc, nat_le, Bool, false, ◌&&◌, List, [], ◌∷◌, length, Some, slice_get}
use Rattle.history.specs.Flight.{low_water}
use Rattle.data_component.specs.Performed.{count, all_at_most}
use Rattle.data_component.specs.Store.{Store, heard, checkpointed, HasForgotten}
use Rattle.transactions.specs.declared.Site.{Site}
use Rattle.transactions.specs.InFlight.{site_at}
use Rattle.transactions.specs.Room.{each_one, total}
use Rattle.tc_core.specs.Checkpointing.{MayCheckpoint, IsCheckpointFault, checkpointed as anew_core}
use Rattle.tc_core.specs.Core.{Core}
use Rattle.tc_world.specs.declared.step.Illegal.{Illegal}
use Rattle.tc_world.specs.declared.step.Illegal.TheVariants.{NotCut, Unforgettable, Memory}
use Rattle.tc_world.specs.Whole.{Whole}

-- the data component hears the mark, where it is of this incarnation, and keeps what it has
abbrev pub kept_by : ℕ → ℕ → Store → Store
kept_by low_water incarnation s = checkpointed (heard s incarnation low_water)

-- data component d does, where it is of the incarnation that is known
abbrev pub kept_at : ℕ → List Site → ℕ → Store → Store
kept_at low_water sites d s = kept_by low_water (site_at sites d).incarnation s

-- the marks that these keep, the first of which is data component d
abbrev pub marks_from : ℕ → List Site → ℕ → List Store → List ℕ
marks_from low_water sites d [] = []
marks_from low_water sites d (s ∷ dcs) = (kept_at low_water sites d s).saved_mark ∷ marks_from low_water sites (suc d) dcs

-- the marks that data components keep, once they have heard the log's low-water mark
abbrev pub kept_marks : Whole → List ℕ
kept_marks w = marks_from (low_water w.core.events) w.core.sites 0 w.dcs

-- it has no more records than there may be, and has performed no number above this one
abbrev pub can_forget : ℕ → Store → Bool
can_forget low_water s = nat_le (count s.base s.list) s.rows && all_at_most low_water s.list

-- data component d is there, and can't
pub record IsUnforgettable (low_water : ℕ) (dcs : List Store) (d : ℕ) : Type 0 where
  pub s : Store
  pub at : slice_get dcs d ≡ Some s
  pub cannot : can_forget low_water s ≡ false

-- the data component has forgotten what it kept
pub record IsForgotten (low_water : ℕ) (sites : List Site) (d : ℕ) (s : Store) (dcs : List Store) : Type 0 where
  pub t : Store
  pub at : slice_get dcs d ≡ Some t
  pub forgotten : HasForgotten (kept_at low_water sites d s) t

-- each of the first ones has become the second one at its place, which has forgotten what it kept
pub record AreForgotten (low_water : ℕ) (sites : List Site) (olds news : List Store) : Type 0 where
  pub count : length news ≡ length olds
  pub each : (d : ℕ) (s : Store) → slice_get olds d ≡ Some s → IsForgotten low_water sites d s news

-- the log of this transaction component begins anew, behind these data components, which have become those: they have forgotten what they
-- performed, and kept their rows
pub record IsCut (c : Core) (dcs : List Store) (c' : Core) (dcs' : List Store) : Type 0 where
  pub may : MayCheckpoint c (marks_from (low_water c.events) c.sites 0 dcs)
  pub forgotten : AreForgotten (low_water c.events) c.sites dcs dcs'
  pub next : c' ≡ anew_core c

-- it doesn't. Open transactions are looked for first, and what can't forget second; want of memory comes behind both, since the marks are
-- listed then
abbrev pub IsUncut : Core → List Store → Illegal → Type 0
IsUncut c dcs (NotCut fault) = IsCheckpointFault c (marks_from (low_water c.events) c.sites 0 dcs) fault
IsUncut c dcs (Unforgettable d) = (total each_one c.events ≡ 0) × IsUnforgettable (low_water c.events) dcs d
IsUncut c dcs Memory = total each_one c.events ≡ 0
IsUncut c dcs why = ⊥
