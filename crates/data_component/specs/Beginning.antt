-- Data components that begin with records: those with which a log begins that was cut.
use Rattle.std.specs.Prelude.{◌≡◌, ℕ, List, length, Some, slice_get}
use Rattle.std.specs.List.{All, flat_map}
use Rattle.data_component.specs.Sorted.{Rows}
use Rattle.data_component.specs.Store.{Store, begun_with, MayBeginWith}

-- they are records of data component d
abbrev pub AreOf : ℕ → Rows → Type 0
AreOf d rows = All (λ row. row.0.dc ≡ d) rows

-- data component d begins with the rows that are its own, which are of it alone
pub record IsBegunAt (parts : List Rows) (mark d : ℕ) (s : Store) (news : List Store) : Type 0 where
  pub own : Rows
  pub part : slice_get parts d ≡ Some own
  pub of : AreOf d own
  pub may : MayBeginWith own mark s
  pub at : slice_get news d ≡ Some (begun_with own mark s)

-- a part one behind the other
abbrev pub joined : List Rows → Rows
joined parts = flat_map (λ rows. rows) parts

-- the rows are in parts, one for each data component, in their order, and each begins with its own
pub record AreBegun (rows : Rows) (mark : ℕ) (olds news : List Store) : Type 0 where
  pub parts : List Rows
  pub many : length parts ≡ length olds
  pub all : joined parts ≡ rows
  pub count : length news ≡ length olds
  pub each : (d : ℕ) (s : Store) → slice_get olds d ≡ Some s → IsBegunAt parts mark d s news
