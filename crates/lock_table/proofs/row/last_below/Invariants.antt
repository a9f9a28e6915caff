use Rattle.std.proofs.Common.{◌≡◌, ℕ, ◌<◌, Bool, true, false}
use Rattle.lock_table.specs.Rows.{IsRowOf}
use Rattle.lock_table.proofs.row.last_below.Given as goal

-- it is a holder, and those behind it are above the number
abbrev pub invariant-holders : goal.invariant-holders
invariant-holders l = (p : ℕ → Bool) → IsRowOf p l.fn.ends.first l.fn.ends.last l.links l.name
    → (p l.holder ≡ true) × (p l.txn ≡ false → (u : ℕ) → l.holder < u → p u ≡ true → l.txn < u)

abbrev pub decreases-holders : goal.decreases-holders
decreases-holders l = l.holder
