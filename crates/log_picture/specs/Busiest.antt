-- The records that the most transactions use.
use Rattle.std.specs.Prelude.{◌≡◌, ℕ, ◌<◌, ◌≤◌, List, length, map, slice_get, Some, count_by}
use Rattle.std.specs.List.{flat_map}
use Rattle.access_slots.specs.Locks.{target}
use Rattle.access_slots.specs.declared.slot.Record.{Record}
use Rattle.log_picture.specs.declared.way.Way.{Way}
use Rattle.log_picture.specs.declared.busiest.RecordRow.{RecordRow}
use Rattle.log_picture.specs.Ways.{uses}

-- how many transactions use it, each of which has these operations
abbrev pub users_of : Record → List (List Way) → ℕ
users_of r all = count_by (uses r) all

-- the records of operations
abbrev pub target_of : Way → Record
target_of way = target way.op

abbrev pub targets_of : List (List Way) → List Record
targets_of all = flat_map (map target_of) all

-- it stands in none of the rows
abbrev pub IsNew : List RecordRow → Record → Type 0
IsNew rows r = (k : ℕ) (row : RecordRow) → slice_get rows k ≡ Some row → ¬ (row.«record» ≡ r)

-- no row is of a record that none uses, and each says how many use its own; a record without a row has no more users than each that has
-- one, and none where there are fewer rows than this
pub record AreBusiest (all : List (List Way)) (rows : List RecordRow) (most : ℕ) : Type 0 where
  pub few : length rows ≤ most
  pub users : (k : ℕ) (row : RecordRow) → slice_get rows k ≡ Some row → (row.users ≡ users_of row.«record» all) × (0 < row.users)
  pub others : (r : Record) → IsNew rows r → (k : ℕ) (row : RecordRow) → slice_get rows k ≡ Some row → users_of r all ≤ row.users
  pub whole : (r : Record) → IsNew rows r → length rows < most → users_of r all ≡ 0
