-- The record that is to have the next row.
use Rattle.std.specs.Prelude.{◌≡◌, ◌⊎◌, ℕ, ◌<◌, ◌≤◌, List, length, slice_get, Option, Some, None}
use Rattle.access_slots.specs.declared.slot.Record.{Record}
use Rattle.log_picture.specs.declared.way.Way.{Way}
use Rattle.log_picture.specs.declared.busiest.RecordRow.{RecordRow}
use Rattle.log_picture.specs.Busiest.{users_of, IsNew}

abbrev pub users_in : Option RecordRow → ℕ
users_in None = 0
users_in (Some row) = row.users

-- a record in use that stands in none of the rows, with how many use it
pub record IsCandidate (all : List (List Way)) (rows : List RecordRow) (row : RecordRow) : Type 0 where
  pub users : row.users ≡ users_of row.«record» all
  pub used : 0 < row.users
  pub new : IsNew rows row.«record»

-- the best so far, or the row of this record where more use that
pub record IsBetter (all : List (List Way)) (rows : List RecordRow) (old : Option RecordRow) (r : Record) (best : Option RecordRow) : Type 0 where
  pub either : (row : RecordRow) → best ≡ Some row → (old ≡ Some row) ⊎ IsCandidate all rows row
  pub more : users_in old ≤ users_in best
  pub own : IsNew rows r → users_of r all ≤ users_in best

-- none of the first n of these records that stands in no row has more users
pub record IsBest (all : List (List Way)) (records : List Record) (rows : List RecordRow) (n : ℕ) (best : Option RecordRow) : Type 0 where
  pub candidate : (row : RecordRow) → best ≡ Some row → IsCandidate all rows row
  pub most : (k : ℕ) (r : Record) → k < n → slice_get records k ≡ Some r → IsNew rows r → users_of r all ≤ users_in best

-- rows of the records that the most transactions use
pub record AreMost (all : List (List Way)) (rows : List RecordRow) : Type 0 where
  pub few : length rows ≤ 16
  pub users : (k : ℕ) (row : RecordRow) → slice_get rows k ≡ Some row → (row.users ≡ users_of row.«record» all) × (0 < row.users)
  pub others : (r : Record) → IsNew rows r → (k : ℕ) (row : RecordRow) → slice_get rows k ≡ Some row → users_of r all ≤ row.users
