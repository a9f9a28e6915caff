-- Operations that a log sends.
use Rattle.std.specs.Prelude.{◌≡◌, ℕ, ◌<◌, List}
use Rattle.access_slots.specs.declared.op.Op.{Op}
use Rattle.tc_log.specs.declared.event.Event.{Event}
use Rattle.tc_log.specs.declared.event.Event.TheVariants.{Ask, Undo}
use Rattle.history.specs.Places.{StandsAt}

-- the event sends this operation of the transaction under the number, as a question or as an undo
abbrev pub SendsOperation : Event → ℕ → ℕ → Op → Type 0
SendsOperation (Ask u m q) t n o = (u ≡ t) × (m ≡ n) × (q ≡ o)
SendsOperation (Undo u m q) t n o = (u ≡ t) × (m ≡ n) × (q ≡ o)
SendsOperation _ t n o = ⊥

-- behind this place of the log the transaction's operation is sent under the number
pub record IsSentBehind (h : List Event) (place t n : ℕ) (o : Op) : Type 0 where
  pub at : ℕ
  pub behind : place < at
  pub event : Event
  pub stands : StandsAt h at event
  pub sends : SendsOperation event t n o
