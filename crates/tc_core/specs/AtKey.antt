-- An open transaction at its key.
use Rattle.std.specs.Prelude.{◌≡◌, ℕ, Some}
use Rattle.slab.specs.Slab.{Slab, get}
use Rattle.tc_core.specs.declared.transaction.Tx.{Tx}

-- a transaction with this number is kept at the key
pub record StandsAt (txns : Slab Tx) (key t : ℕ) : Type 0 where
  pub tx : Tx
  pub found : get txns key ≡ Some tx
  pub serial : tx.serial ≡ t
