-- Transactions as they are kept that stand in the way of a set of locks.
use Rattle.std.specs.Prelude.{◌≡◌, ◌≢◌, ◌⊎◌, ℕ, Bool, true, false, ◌||◌, List, Option, Some, None}
use Rattle.slab.specs.Slab.{Slab, get}
use Rattle.access_slots.specs.declared.lock.Lock.{Lock}
use Rattle.lock_table.specs.Clashes.{clashes}
use Rattle.lock_table.specs.Facts.{Table, held_by}
use Rattle.transactions.specs.declared.Next.{Next}
use Rattle.transactions.specs.declared.Next.TheVariants as next
use Rattle.tc_core.specs.Running.{does}
use Rattle.tc_core.specs.declared.transaction.Tx.{Tx}

abbrev pub stuck_by : Option Next → Bool
stuck_by None = false
stuck_by (Some (next.Waits n)) = false
stuck_by (Some (next.Asks o)) = false
stuck_by (Some (next.Undoes o)) = false
stuck_by (Some (next.Stuck n)) = true
stuck_by (Some (next.Over o)) = false

-- a transaction with this number is kept at a key
pub record OpenAt (txns : Slab Tx) (t : ℕ) : Type 0 where
  pub key : ℕ
  pub tx : Tx
  pub found : get txns key ≡ Some tx
  pub serial : tx.serial ≡ t

-- it is marked as in doubt, or stuck
abbrev pub stands_still : Tx → Bool
stands_still tx = tx.in_doubt || stuck_by (does tx)

-- the transaction is open, and neither
pub record Moves (txns : Slab Tx) (t : ℕ) : Type 0 where
  pub at : OpenAt txns t
  pub moves : stands_still at.tx ≡ false

-- it is open and one of the two, or it isn't open
abbrev pub IsStill : Slab Tx → ℕ → Type 0
IsStill txns t =
    ((at : OpenAt txns t) × (stands_still at.tx ≡ true)) ⊎ ((key : ℕ) (tx : Tx) → get txns key ≡ Some tx → tx.serial ≢ t)

-- each transaction in the way is in doubt or stuck
abbrev pub AllStandStill : Table → Slab Tx → List Lock → Type 0
AllStandStill locks txns wanted = (t : ℕ) → clashes wanted (held_by locks t) ≡ true → IsStill txns t

-- a transaction in the way that is neither
pub record HoldsUp (locks : Table) (txns : Slab Tx) (wanted : List Lock) : Type 0 where
  pub txn : ℕ
  pub clash : clashes wanted (held_by locks txn) ≡ true
  pub moves : Moves txns txn
