-- What becomes of data components that perform wires.
use Rattle.std.specs.Prelude.{◌≡◌, ℕ, true, List, length, Some, slice_get, fold}
use Rattle.std.specs.List.{All}
use Rattle.access_slots.specs.Locks.{target}
use Rattle.access_slots.specs.declared.op.Wire.{Wire}
use Rattle.data_component.specs.Store.{Store, performed}

-- the wire is for the data component with this number
abbrev pub IsFor : ℕ → Wire → Type 0
IsFor d x = (target x.op).dc ≡ d

-- and it is one of a redo
abbrev pub IsRedoFor : ℕ → Wire → Type 0
IsRedoFor d x = IsFor d x × (x.redo ≡ true)

-- it performed some such wires, one after the other, and nothing else happened to it
pub record IsServed (Such : Wire → Type 0) (before after : Store) : Type 0 where
  pub wires : List Wire
  pub own : All Such wires
  pub performs : after ≡ fold performed before wires

-- what stands at this place now was served by wires that are such for its number
pub record IsServedAt (Such : ℕ → Wire → Type 0) (after : List Store) (d : ℕ) (before : Store) : Type 0 where
  pub now : Store
  pub at : slice_get after d ≡ Some now
  pub served : IsServed (Such d) before now

-- there are as many as before, and each was served so, at its place
pub record AreServedBy (Such : ℕ → Wire → Type 0) (before after : List Store) : Type 0 where
  pub count : length after ≡ length before
  pub each : (d : ℕ) (s : Store) → slice_get before d ≡ Some s → IsServedAt Such after d s

-- each performed wires for itself alone
abbrev pub AreServed : List Store → List Store → Type 0
AreServed before after = AreServedBy IsFor before after

-- each performed wires of its redo alone
abbrev pub AreRedone : List Store → List Store → Type 0
AreRedone before after = AreServedBy IsRedoFor before after
