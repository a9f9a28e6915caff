-- When a transaction takes in an answer.
use Rattle.std.specs.Prelude.{◌≡◌, ℕ, ◌<◌, Some, true, false}
use Rattle.access_slots.specs.Access.{fits}
use Rattle.access_slots.specs.declared.op.Said.{Said}
use Rattle.verifier.specs.Checked.{Checked}
use Rattle.transactions.specs.declared.Sent.{Sent}
use Rattle.transactions.specs.Standing.{Standing, answered}
use Rattle.slab.specs.Slab.{Slab, Updates}
use Rattle.access_slots.specs.declared.op.Op.{Op}
use Rattle.transactions.specs.Reached.{Asks, reached_of, stop_at, Fitting}
use Rattle.tc_core.specs.declared.transaction.Tx.{Tx}
use Rattle.tc_core.specs.Kept.{Keeps}

-- it waits for this answer
pub record MayHear (q : Checked) (tx : Tx) (s : Standing) (said : Said) : Type 0 where
  pub keeps : Keeps q tx s
  pub r : Sent
  pub waits : s.sent ≡ Some r
  pub fit : fits r.op said ≡ true
  pub fitting : Fitting q s.call.args s.answers
  pub asks : r.undoing ≡ false → reached_of (stop_at q s.call.args s.answers) ≡ Asks r.op
  pub room : r.undoing ≡ false → 0 < tx.undo.room

-- it waits for this number and operation, and the reply is of this number and fits
pub record Accepts (tx : Tx) (number : ℕ) (o : Op) (replied : ℕ) (said : Said) : Type 0 where
  pub r : Sent
  pub waits : tx.sent ≡ Some r
  pub same_number : r.number ≡ number
  pub same_op : r.op ≡ o
  pub agree : replied ≡ number
  pub fit : fits o said ≡ true

-- at this key stands what the answer makes of the transaction
pub record Heard (q : Checked) (txns txns' : Slab Tx) (key : ℕ) (tx : Tx) (said : Said) : Type 0 where
  pub after : Tx
  pub updates : Updates txns txns' key (Some after)
  pub serial : after.serial ≡ tx.serial
  pub certain : after.in_doubt ≡ false
  pub keeps : (s : Standing) → MayHear q tx s said → Keeps q after (answered said s)
