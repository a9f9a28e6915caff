use Rattle.lock_table.specs.Clashes.{keeps_out}
use Rattle.lock_table.specs.Facts.{held_by}
use Rattle.tc_core.proofs.HolderLemmas.{AreStill, IsIn, left_above}
use Rattle.tc_core.proofs.open_txns.OpenTxns.holds_up.Given as goal

-- those that were looked at stand still
abbrev pub invariant-holders : goal.invariant-holders
invariant-holders l = record {
  way : IsIn (keeps_out (held_by l.held) l.lock) l.holder;
  still : AreStill (keeps_out (held_by l.held) l.lock) l.self l.holder;
}

abbrev pub decreases-holders : goal.decreases-holders
decreases-holders l = left_above l.holder
