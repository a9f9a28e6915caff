use Rattle.std.proofs.Common.{Some, sym, ◌∙◌, ap}
use Rattle.tc_core.specs.Joining.Sends.{asking_under}
use Rattle.tc_core.specs.declared.transaction.Tx.{Tx}
use Rattle.tc_core.proofs.BoxLemmas.{has-box, seen-some, goes-on, written-len, written-keys, written-boxed}
use Rattle.tc_core.proofs.open_txns.OpenTxns.send.Goals as goal

pub index_mut-requires : goal.index_mut-requires
index_mut-requires c = has-box _ c.self.inside.txns c.args.self.now c.self.view_is c.args.key c.requires.key

pub send-requires : goal.send-requires
send-requires c = c.requires.left _
    (seen-some _ c.self.inside.txns c.args.self.now c.self.view_is c.args.key c.index_mut.result.now c.index_mut.ensures.value
    ∙ ap (λ (x : Tx). Some x) (sym c.deref_mut.ensures.value))

pub invariant_of-self : goal.invariant_of-self
invariant_of-self c = (
  written-keys c.self.inside.keys _ c.self.inside.txns c.args.key c.index_mut.result.now _ c.self.invariant.0 c.index_mut.ensures.value
      (ap (λ (x : Tx). x.serial) (c.send.ensures ∙ ap (asking_under c.args.number c.args.op.now) c.deref_mut.ensures.value)),
  written-boxed c.self.inside.txns c.self.inside.boxes c.args.key c.index_mut.result.now _ c.index_mut.ensures.value c.self.invariant.1,
)

pub returns-clause-updates : goal.returns-clause-updates
returns-clause-updates c = λ tx found.
    goes-on _ c.self.inside.txns c.args.self.now c.self.view_is c.args.key c.index_mut.result.now _ tx
    (asking_under c.args.number c.args.op.now) c.index_mut.ensures.value found (c.send.ensures
    ∙ ap (asking_under c.args.number c.args.op.now) c.deref_mut.ensures.value)

pub returns-clause-len : goal.returns-clause-len
returns-clause-len c = written-len _ c.self.inside.txns c.args.self.now c.args.key _ c.self.view_is c.requires.key
