use Rattle.std.proofs.Common.{drop}
use Rattle.tc_core.proofs.HolderLemmas.{AreStillBut}
use Rattle.tc_core.proofs.open_txns.OpenTxns.all_stranded.Given as goal

abbrev pub invariant-loop-lock : goal.invariant-loop-lock
invariant-loop-lock l = AreStillBut l.held l.self l.locks (drop l.lock-index l.locks)
