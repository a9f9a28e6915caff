-- Transactions in lanes: no two of a lane hold locks at one place of the log.
use Rattle.std.specs.Prelude.{◌≡◌, ℕ, ◌<◌, List, length, slice_get, Some}
use Rattle.log_picture.specs.declared.life.Life.{Life}
use Rattle.log_picture.specs.Lives.{last_of}

-- each has a lane, of so many, and where two have the same one, the first is over before the other begins
pub record AreApart (lives : List Life) (lanes : List ℕ) (count : ℕ) : Type 0 where
  pub each : length lanes ≡ length lives
  pub within : (i lane : ℕ) → slice_get lanes i ≡ Some lane → lane < count
  pub apart : (i j lane : ℕ) (a b : Life) → i < j → slice_get lanes i ≡ Some lane → slice_get lanes j ≡ Some lane
      → slice_get lives i ≡ Some a → slice_get lives j ≡ Some b → last_of a < b.begin
