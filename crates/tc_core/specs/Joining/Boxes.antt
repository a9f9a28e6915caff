-- Open transactions in boxes, each at a key, and their keys by serial number.
use Rattle.std.specs.Prelude.{◌≡◌, ℕ, zero, suc, ◌+◌, ◌≤◌, map, Option, Some, None, Box, Vec, vec_len, vec_capacity}
use Rattle.slab.specs.Slab.{Slab, get, slab_len}
use Rattle.tc_core.specs.AtKey.{StandsAt}
use Rattle.tc_core.specs.Joining.Keys.{Keys, key_of}
use Rattle.tc_core.specs.declared.transaction.Tx.{Tx}

-- the keys by serial number are those of the transactions
pub record AreKeys (keys : Keys) (txns : Slab Tx) : Type 0 where
  pub keyed : (key : ℕ) (tx : Tx) → get txns key ≡ Some tx → key_of keys tx.serial ≡ Some key
  pub listed : (t key : ℕ) → key_of keys t ≡ Some key → StandsAt txns key t

-- one more may begin, where there is a box for it and room for its key
abbrev pub ready : ℕ → ℕ → ℕ
ready zero room = 0
ready (suc boxes) zero = 0
ready (suc boxes) (suc room) = 1

module _ {A : Type 0} where
  abbrev pub in_box : Option (Box Tx A) → Option Tx
  in_box None = None
  in_box (Some b) = Some b.value

  -- the transactions out of their boxes, with room for so many more
  abbrev pub unboxed : ℕ → Slab (Box Tx A) → Slab Tx
  unboxed more txns = record { slots = map in_box txns.slots; vacant_key = txns.vacant_key; capacity = slab_len txns + more }

  -- each box has room among the transactions, and each transaction's among the boxes
  pub record AreBoxed {Z : Type 0} (txns : Slab (Box Tx A)) (boxes : Vec (Box Tx A) Z) : Type 0 where
    pub begin : slab_len txns + vec_len boxes ≤ txns.capacity
    pub end : slab_len txns + vec_len boxes ≤ vec_capacity boxes
