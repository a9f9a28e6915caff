-- One more transaction in a lane. Of each lane is known up to which place its locks are held.
use Rattle.std.specs.Prelude.{◌≡◌, ℕ, ◌<◌, ◌≤◌, List, length, slice_get, Some}
use Rattle.log_picture.specs.declared.life.Life.{Life}
use Rattle.log_picture.specs.Lives.{last_of}

-- its lane was free before it begins, and is held until its last place; each other lane as long as it was
pub record IsPlaced (old new : List ℕ) (lane begin last : ℕ) : Type 0 where
  pub free : (held : ℕ) → slice_get old lane ≡ Some held → held < begin
  pub held : (k until : ℕ) → slice_get old k ≡ Some until → (later : ℕ) × (slice_get new k ≡ Some later) × (until ≤ later)
  pub own : (until : ℕ) × (slice_get new lane ≡ Some until) × (last ≤ until)
  pub longer : length old ≤ length new

-- the first n transactions have lanes, and of each lane is known up to which place its locks are held
pub record AreLaid (lives : List Life) (lanes lasts : List ℕ) (n : ℕ) : Type 0 where
  pub each : length lanes ≡ n
  pub within : (i lane : ℕ) → slice_get lanes i ≡ Some lane → lane < length lasts
  pub held : (i lane : ℕ) (a : Life) → slice_get lanes i ≡ Some lane → slice_get lives i ≡ Some a
      → (until : ℕ) × (slice_get lasts lane ≡ Some until) × (last_of a ≤ until)
  pub apart : (i j lane : ℕ) (a b : Life) → i < j → slice_get lanes i ≡ Some lane → slice_get lanes j ≡ Some lane
      → slice_get lives i ≡ Some a → slice_get lives j ≡ Some b → last_of a < b.begin
