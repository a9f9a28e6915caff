-- A wire that is performed where there is a data component for it.
use Rattle.std.specs.Prelude.{◌≡◌, List, Option, Some, None, Ok, Err, slice_get, slice_set}
use Rattle.access_slots.specs.Locks.{target}
use Rattle.access_slots.specs.declared.op.Wire.{Wire}
use Rattle.access_slots.specs.declared.op.Reply.{Reply}
use Rattle.data_component.specs.Store.{Store, replied, performed}
use Rattle.tc_core.specs.Core.{Core, Asking}
use Rattle.tc_core.specs.Lent.{wire_of}
use Rattle.tc_core.specs.declared.state.Down.{Down}

pub record PerformsAt (before : List Store) (x : Wire) (reply : Option Reply) (after : List Store) : Type 0 where
  pub s : Store
  pub at : slice_get before (target x.op).dc ≡ Some s
  pub said : reply ≡ replied s x
  pub then_is : after ≡ slice_set before (target x.op).dc (performed s x)

-- it is performed; or there is no data component for it, and nothing is replied
pub data Performs (before : List Store) (x : Wire) (reply : Option Reply) (after : List Store) : Type 0 where
  There : PerformsAt before x reply after → Performs before x reply after
  Nowhere : slice_get before (target x.op).dc ≡ None → reply ≡ None → after ≡ before → Performs before x reply after

-- the request's wire is performed; or none is made while its data component is down
pub data Sends (c : Core) (r : Asking) (before : List Store) (reply : Option Reply) (after : List Store) : Type 0 where
  Sent : (x : Wire) → wire_of c r ≡ Ok x → Performs before x reply after → Sends c r before reply after
  Unsent : (down : Down) → wire_of c r ≡ Err down → reply ≡ None → after ≡ before → Sends c r before reply after
