-- A state and data components between which nothing is on its way.
use Rattle.std.specs.Prelude.{◌≡◌, ℕ, ◌≤◌, true, List, Some, None, slice_get}
use Rattle.request_numbers.specs.Given.{holds}
use Rattle.history.specs.Flight.{open_op, given, low_water}
use Rattle.data_component.specs.Performed.{Performed}
use Rattle.data_component.specs.Store.{Store}
use Rattle.transactions.specs.InFlight.{site_at}
use Rattle.tc_core.specs.Core.{Core}
use Rattle.coming_back.specs.Coming.{AreFullWhereGivenUp}

-- data component d, which is s, is up in the known incarnation, has low marks, and performed no number that is open
pub record IsQuietAt (c : Core) (d : ℕ) (s : Store) : Type 0 where
  pub up : (site_at c.sites d).redo ≡ None
  pub known : (site_at c.sites d).incarnation ≡ s.incarnation
  pub mark : s.mark ≤ low_water c.events
  pub saved_mark : s.saved_mark ≤ low_water c.events
  pub list : (k : ℕ) (e : Performed) → slice_get s.list k ≡ Some e → (e.0 ≤ given c.events) × (open_op c.events e.0 ≡ None)

pub record IsQuiet (c : Core) (dcs : List Store) : Type 0 where
  pub each : (d : ℕ) (s : Store) → slice_get dcs d ≡ Some s → IsQuietAt c d s
  pub given_up : (n : ℕ) → holds n c.given_up ≡ true → n ≤ given c.events
  pub full : AreFullWhereGivenUp c dcs
