-- A transaction that begins.
use Rattle.std.specs.Prelude.{◌≡◌, ℕ, ◌*◌, false, List, [], Some, None}
use Rattle.semantics.specs.Reach.{AreArguments}
use Rattle.slab.specs.Slab.{Slab, get, Updates}
use Rattle.verifier.specs.Checked.{Checked}
use Rattle.transactions.specs.Reached.{calls_in}
use Rattle.tc_core.specs.Running.{Runs}
use Rattle.tc_core.specs.Joining.Writes.{Writes}
use Rattle.tc_core.specs.declared.transaction.Tx.{Tx}

-- it has run to its first question or its end, has sent nothing, and has room of its own
pub record Begins (q : Checked) (t p : ℕ) (args : List ℕ) (undo : Writes) (tx : Tx) : Type 0 where
  pub runs : Runs q tx args []
  pub takes : AreArguments q.decl args
  pub names : (tx.serial ≡ t) × (tx.proc ≡ p)
  pub fresh : (tx.sent ≡ None) × (tx.full ≡ false) × (tx.tries ≡ 0) × (tx.last ≡ 0)
  pub room : (tx.undo ≡ undo) × (tx.left ≡ 5 * calls_in q)
  pub certain : tx.in_doubt ≡ false

-- at this key, where there was none, it stands
pub record Entered (q : Checked) (t p : ℕ) (args : List ℕ) (undo : Writes) (txns txns' : Slab Tx) (key : ℕ) : Type 0 where
  pub tx : Tx
  pub begins : Begins q t p args undo tx
  pub vacant : get txns key ≡ None
  pub updates : Updates txns txns' key (Some tx)
