-- A transaction as it is kept that sends an operation.
use Rattle.std.specs.Prelude.{ℕ, ◌+◌, ◌-◌, true, false}
use Rattle.access_slots.specs.declared.op.Op.{Op}
use Rattle.transactions.specs.Standing.{sent_as}
use Rattle.tc_core.specs.declared.transaction.Tx.{Tx}

-- it asks, under this number
abbrev pub asking_under : ℕ → Op → Tx → Tx
asking_under n o tx = record tx { sent = sent_as n o false; last = n; left = tx.left - 1; in_doubt = false }

-- it undoes a write, under this number
abbrev pub undoing_under : ℕ → Op → Tx → Tx
undoing_under n o tx = record tx { sent = sent_as n o true; tries = tx.tries + 1; last = n; left = tx.left - 1; in_doubt = false }

-- what it waits for is given up
abbrev pub doubted : Tx → Tx
doubted tx = record tx { in_doubt = true }
