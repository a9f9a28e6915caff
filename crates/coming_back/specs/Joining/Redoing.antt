-- What is done for one data component that is redone.
use Rattle.std.specs.Prelude.{◌≡◌, ◌≢◌, ℕ, ◌-◌, ◌≤◌, List, length, Option, Some, None, slice_get}
use Rattle.tc_log.specs.declared.event.Event.{Event}
use Rattle.history.specs.Flight.{given}
use Rattle.data_component.specs.Store.{Store}
use Rattle.transactions.specs.declared.Redoing.{Redoing}
use Rattle.transactions.specs.InFlight.{site_at}
use Rattle.tc_core.specs.Core.{Core}
use Rattle.coming_back.specs.Serving.{AreRedone}
use Rattle.coming_back.specs.Done.{done_above, HasWhatWasDone}
use Rattle.coming_back.specs.Joining.LivingOn.{LivesOn}
use Rattle.coming_back.specs.Coming.{at_rest}

-- of the state nothing changes but whether data components are up, or how far their redo has come
pub record Redoes (c : Core) (dcs : List Store) (c' : Core) (dcs' : List Store) : Type 0 where
  pub core : c' ≡ record c { sites = c'.sites }
  pub count : length c'.sites ≡ length c.sites
  pub incarnations : (d : ℕ) → (site_at c'.sites d).incarnation ≡ (site_at c.sites d).incarnation
  pub redone : AreRedone dcs dcs'
  pub lived : LivesOn (at_rest c dcs) (at_rest c' dcs')

-- the same for one data component
pub record RedoesAt (d : ℕ) (c : Core) (dcs : List Store) (c' : Core) (dcs' : List Store) : Type 0 where
  pub redoes : Redoes c dcs c' dcs'
  pub others : (e : ℕ) → e ≢ d → site_at c'.sites e ≡ site_at c.sites e
  pub stores : (e : ℕ) → e ≢ d → slice_get dcs' e ≡ slice_get dcs e

-- a data component is there, and of the incarnation that is known
pub record IsMatched (c : Core) (dcs : List Store) (d : ℕ) : Type 0 where
  pub s : Store
  pub at : slice_get dcs d ≡ Some s
  pub known : (site_at c.sites d).incarnation ≡ s.incarnation

abbrev pub numbers_above : ℕ → Option Redoing → ℕ
numbers_above last None = 0
numbers_above last (Some r) = last - r.redone

-- how many numbers may still be redone at the data component
unfoldable pub left_to_redo : Core → ℕ → ℕ
left_to_redo c d = numbers_above (given c.events) (site_at c.sites d).redo

-- what was redone so far: all that was done where it is up, else what was done up to the last number redone
abbrev pub IsDoneTo : List Event → ℕ → Store → Option Redoing → Type 0
IsDoneTo h d s None = HasWhatWasDone h d s
IsDoneTo h d s (Some r) = (s.base_mark ≤ r.redone) × (s.list ≡ done_above h d s.base_mark (r.redone - s.base_mark))

-- a data component is there, and has just what was redone
pub record IsRedoneTo (c : Core) (dcs : List Store) (d : ℕ) : Type 0 where
  pub s : Store
  pub at : slice_get dcs d ≡ Some s
  pub to : IsDoneTo c.events d s (site_at c.sites d).redo
