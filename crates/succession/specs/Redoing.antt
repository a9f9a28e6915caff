-- A former one whose redo goes on, on replies that came once another had taken over.
use Rattle.std.specs.Prelude.{◌≡◌, ◌≢◌, ◌⊎◌, ℕ, ◌<◌, ◌≤◌, true, Some, None, slice_get}
use Rattle.access_slots.specs.declared.op.Op.{Op}
use Rattle.access_slots.specs.declared.op.Said.{Said}
use Rattle.access_slots.specs.declared.op.Said.TheVariants.{Old}
use Rattle.access_slots.specs.declared.op.Wire.{Wire}
use Rattle.access_slots.specs.declared.op.Reply.{Reply}
use Rattle.history.specs.Anew.{begun}
use Rattle.history.specs.Redo.{is_done}
use Rattle.data_component.specs.Performed.{said_under}
use Rattle.transactions.specs.InFlight.{site_at}
use Rattle.serial.specs.Serial.{done}
use Rattle.serial.specs.Lists.{logged, dc_of}
use Rattle.tc_world.specs.Whole.{Whole}

-- no operation that was done at this data component has a number between these
abbrev pub NoneBetween : Whole → ℕ → ℕ → ℕ → Type 0
NoneBetween w d low high = (m : ℕ) (o : Op) (said : Said) → logged w.core.events m ≡ Some o → dc_of o ≡ d → said_under (done w.core.events) m ≡ Some said
    → is_done said ≡ true → low < m → high ≤ m

-- of its redo this wire was carried and a reply to it has come; and x is the next. Where its incarnation is the one
-- that is known: what was done there under the next number, or, if the data component is up again, under any
pub record RedoesOn (w : Whole) (x : Wire) : Type 0 where
  pub before : Wire
  pub place : ℕ
  pub carried : slice_get w.copies place ≡ Some before
  pub since : begun w.core.events < before.number
  pub again : before.redo ≡ true
  pub answer : Reply
  pub came : ℕ
  pub replied : slice_get w.replies came ≡ Some answer
  pub of_it : answer.number ≡ before.number
  pub said_by : answer.incarnation ≡ before.incarnation
  pub new : answer.said ≢ Old
  pub redo : x.redo ≡ true
  pub dc : dc_of x.op ≡ dc_of before.op
  pub incarnation : x.incarnation ≡ before.incarnation
  pub low : x.low_water ≡ before.low_water
  pub logs : logged w.core.events x.number ≡ Some x.op
  pub said : Said
  pub was : said_under (done w.core.events) x.number ≡ Some said
  pub did : is_done said ≡ true
  pub next : x.incarnation ≡ (site_at w.core.sites (dc_of x.op)).incarnation
      → ((site_at w.core.sites (dc_of x.op)).redo ≡ None) ⊎ NoneBetween w (dc_of x.op) before.number x.number
