-- Which operations take effect at a data component, whoever sent them.
use Rattle.std.specs.Prelude.{◌≡◌, ℕ, false, Some, slice_get}
use Rattle.access_slots.specs.declared.op.Wire.{Wire}
use Rattle.access_slots.specs.declared.op.Said.{Said}
use Rattle.data_component.specs.Store.{Store, New, fate_of}
use Rattle.serial.specs.Lists.{dc_of}
use Rattle.tc_world.specs.Whole.{Whole}
use Rattle.tc_world.specs.OneAtATime.{IsKnown}

-- the wire, which was carried, would be performed now, and isn't a repeat: its data component is up, of the known incarnation, which is the
-- wire's too, and it isn't redone
pub record TakesEffect (w : Whole) (x : Wire) : Type 0 where
  pub place : ℕ
  pub carried : slice_get w.copies place ≡ Some x
  pub s : Store
  pub at : slice_get w.dcs (dc_of x.op) ≡ Some s
  pub known : IsKnown w (dc_of x.op) s
  pub same : s.incarnation ≡ x.incarnation
  pub ordinary : x.redo ≡ false
  pub said : Said
  pub fate : fate_of s x ≡ New said
