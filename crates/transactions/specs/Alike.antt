-- Two histories of which the same is said from then on, and where one begins anew.
use Rattle.std.specs.Prelude.{◌≡◌, ℕ, ◌<◌, List, None}
use Rattle.tc_log.specs.declared.event.Event.{Event}
use Rattle.history.specs.Calls.{admitted, open_call}
use Rattle.history.specs.Flight.{given, open_op, open_numbers}
use Rattle.history.specs.Redo.{answered}
use Rattle.transactions.specs.Standing.{standing}

-- no transaction is open
abbrev pub IsAtRest : List Event → Type 0
IsAtRest h = (t : ℕ) → standing h t ≡ None

-- how many transactions were admitted and numbers given out, where each transaction stands, what is in flight under each number, and
-- what was answered under those above this one
pub record AreAlike (from : ℕ) (h k : List Event) : Type 0 where
  pub admissions : admitted h ≡ admitted k
  pub numbers : given h ≡ given k
  pub standings : (t : ℕ) → standing h t ≡ standing k t
  pub calls : (t : ℕ) → open_call h t ≡ open_call k t
  pub flights : (n : ℕ) → open_op h n ≡ open_op k n
  pub pending : open_numbers h ≡ open_numbers k
  pub answers : (n : ℕ) → from < n → answered h n ≡ answered k n
