use Rattle.std.proofs.Common.{sym, ◌∙◌}
use Rattle.tc_core.proofs.BoxLemmas.{seen-len}
use Rattle.tc_core.proofs.open_txns.OpenTxns.len.Goals as goal

pub returns : goal.returns
returns c = c.len.ensures ∙ sym (seen-len _ c.self.inside.txns c.args.self.now c.self.view_is)
