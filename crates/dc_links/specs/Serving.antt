-- What becomes of a data component that is served.
use Rattle.std.specs.Prelude.{◌≡◌, ℕ, List, All, fold}
use Rattle.access_slots.specs.Locks.{target}
use Rattle.access_slots.specs.declared.op.Wire.{Wire}
use Rattle.data_component.specs.Store.{Store, performed}

-- the wire is for the component with this number
abbrev pub IsFor : ℕ → Wire → Type 0
IsFor number w = (target w.op).dc ≡ number

-- it performed some wires for the component with this number, one after the other, and nothing else happened to it
pub record IsServed (number : ℕ) (before after : Store) : Type 0 where
  pub wires : List Wire
  pub own : All (IsFor number) wires
  pub performs : after ≡ fold performed before wires
