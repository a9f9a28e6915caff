use Rattle.std.proofs.Common.{Some, ap, sym, ◌∙◌}
use Rattle.tc_core.specs.declared.transaction.Tx.{Tx}
use Rattle.tc_core.proofs.BoxLemmas.{has-box, seen-some}
use Rattle.tc_core.proofs.open_txns.OpenTxns.at.Goals as goal

pub index-requires : goal.index-requires
index-requires c = has-box _ c.self.inside.txns c.args.self.now c.self.view_is c.args.key c.requires

pub returns : goal.returns
returns c = seen-some _ c.self.inside.txns c.args.self.now c.self.view_is c.args.key c.index.result.now c.index.ensures
    ∙ ap (λ (x : Tx). Some x) (sym c.as_ref.ensures)
