-- What every world keeps that began fresh, and in which no reply was forged.
use Rattle.std.specs.Prelude.{◌≡◌, ℕ, ◌≤◌, nat_lt, if◌then◌else◌, List, [], ◌∷◌, Some, slice_get}
use Rattle.access_slots.specs.declared.op.Wire.{Wire}
use Rattle.access_slots.specs.declared.op.Reply.{Reply}
use Rattle.access_slots.specs.declared.slot.Record.{Record}
use Rattle.data_component.specs.Store.{Store}
use Rattle.history.specs.Anew.{begun}
use Rattle.history.specs.Flight.{open_op, given}
use Rattle.serial.specs.Values.{Table}
use Rattle.serial.specs.Serial.{done, HonestFrom}
use Rattle.serial.specs.Lists.{logged}
use Rattle.serial.specs.Audit.{base_of}
use Rattle.serial.specs.Joining.Sites.{AreOk}
use Rattle.tc_world.specs.Whole.{Whole}

-- the data component's list begins behind this number, and none of its marks is below it
pub record BeginsBehind (number : ℕ) (s : Store) : Type 0 where
  pub base_mark : s.base_mark ≡ number
  pub mark : number ≤ s.mark
  pub saved_mark : number ≤ s.saved_mark

-- each data component's does
abbrev pub EachBeginsBehind : ℕ → List Store → Type 0
EachBeginsBehind number dcs = (d : ℕ) (s : Store) → slice_get dcs d ≡ Some s → BeginsBehind number s

-- those that have a number above this one
abbrev pub above : {X : Type 0} → (X → ℕ) → ℕ → List X → List X
above number n [] = []
above number n (x ∷ xs) = if nat_lt n (number x) then x ∷ above number n xs else above number n xs

-- the wires of numbers that were given out since the log began
abbrev pub wires_since : Whole → List Wire
wires_since w = above (λ (x : Wire). x.number) (begun w.core.events) w.copies

abbrev pub replies_since : Whole → List Reply
replies_since w = above (λ (x : Reply). x.number) (begun w.core.events) w.replies

-- no wire of a number from before the log began tells of a mark behind that
abbrev pub ArePast : ℕ → List Wire → Type 0
ArePast number xs = (k : ℕ) (x : Wire) → slice_get xs k ≡ Some x → x.number ≤ number → x.low_water ≤ number

pub record IsListed (w : Whole) : Type 0 where
  -- the records that were there at first are those with which data components begin
  pub base : Table
  pub based : (r : Record) → base r ≡ base_of w.dcs r
  pub behind : EachBeginsBehind (begun w.core.events) w.dcs
  pub past : ArePast (begun w.core.events) w.copies
  pub honest : HonestFrom base w.core.events
  pub ok : AreOk base (logged w.core.events) (open_op w.core.events) (done w.core.events) (given w.core.events) w.core.sites
      w.dcs (wires_since w) (replies_since w) w.news
