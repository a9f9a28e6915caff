-- A request that is given up.
use Rattle.std.specs.Prelude.{◌≡◌, ℕ, Some}
use Rattle.access_slots.specs.declared.op.Op.{Op}
use Rattle.transactions.specs.Standing.{Standing, standing}
use Rattle.transactions.specs.declared.Sent.{Sent}
use Rattle.tc_core.specs.Core.{Core, Asking}
use Rattle.tc_core.specs.Doubts.{with_number}
use Rattle.tc_core.specs.declared.transaction.Tx.{Tx}

-- the request is open here: its transaction waits for its number and operation
pub record IsOpenHere (c : Core) (r : Asking) : Type 0 where
  pub s : Standing
  pub is : standing c.events r.txn ≡ Some s
  pub sent : Sent
  pub waits : s.sent ≡ Some sent
  pub same_number : sent.number ≡ r.number
  pub same_op : sent.op ≡ r.op

-- the transaction as it is kept waits for this number and operation
pub record Awaits (tx : Tx) (number : ℕ) (o : Op) : Type 0 where
  pub r : Sent
  pub waits : tx.sent ≡ Some r
  pub same_number : r.number ≡ number
  pub same_op : r.op ≡ o

abbrev pub with_given_up : Core → ℕ → Core
with_given_up c n = record c { given_up = with_number n c.given_up }
