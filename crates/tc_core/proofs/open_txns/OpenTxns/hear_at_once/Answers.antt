use Rattle.std.proofs.Common.{◌≡◌, Some, sym, ◌∙◌, ap, subst}
use Rattle.slab.proofs.SlabLemmas.{Updates-with_value}
use Rattle.std.specs.Prelude.{is_some}
use Rattle.transactions.proofs.StandingLemmas.{some_same}
use Rattle.tc_core.specs.Joining.Hearing.{MayHear}
use Rattle.tc_core.specs.Joining.Sends.{asking_under}
use Rattle.tc_core.specs.declared.transaction.Tx.{Tx}
use Rattle.tc_core.proofs.BoxLemmas.{has-box, seen-some, seen-updates, written-len, written-keys, written-boxed}
use Rattle.tc_core.proofs.open_txns.OpenTxns.hear_at_once.Goals as goal

pub index_mut-requires : goal.index_mut-requires
index_mut-requires c = has-box _ c.self.inside.txns c.args.self.now c.self.view_is c.args.key c.requires.key

pub hear_at_once-requires-clause-idle : goal.hear_at_once-requires-clause-idle
hear_at_once-requires-clause-idle c =
    c.requires.idle _ (seen-some _ c.self.inside.txns c.args.self.now c.self.view_is c.args.key c.index_mut.result.now c.index_mut.ensures.value
    ∙ ap (λ (x : Tx). Some x) (sym c.deref_mut.ensures.value))

pub hear_at_once-requires-clause-left : goal.hear_at_once-requires-clause-left
hear_at_once-requires-clause-left c =
    c.requires.left _ (seen-some _ c.self.inside.txns c.args.self.now c.self.view_is c.args.key c.index_mut.result.now c.index_mut.ensures.value
    ∙ ap (λ (x : Tx). Some x) (sym c.deref_mut.ensures.value))

pub hear_at_once-requires-clause-hears : goal.hear_at_once-requires-clause-hears
hear_at_once-requires-clause-hears c =
    c.requires.hears _ (seen-some _ c.self.inside.txns c.args.self.now c.self.view_is c.args.key c.index_mut.result.now c.index_mut.ensures.value
    ∙ ap (λ (x : Tx). Some x) (sym c.deref_mut.ensures.value))

pub invariant_of-self : goal.invariant_of-self
invariant_of-self c = (
  written-keys c.self.inside.keys _ c.self.inside.txns c.args.key c.index_mut.result.now _ c.self.invariant.0 c.index_mut.ensures.value
      (c.hear_at_once.ensures.serial ∙ ap (λ (x : Tx). x.serial) c.deref_mut.ensures.value),
  written-boxed c.self.inside.txns c.self.inside.boxes c.args.key c.index_mut.result.now _ c.index_mut.ensures.value c.self.invariant.1,
)

pub returns-clause-updates : goal.returns-clause-updates
returns-clause-updates c = λ tx found.
    let b = c.index_mut.result.now in
    let same : c.deref_mut.result.now ≡ tx = c.deref_mut.ensures.value
    ∙ some_same b.value tx (sym (seen-some _ c.self.inside.txns c.args.self.now c.self.view_is c.args.key b c.index_mut.ensures.value)
    ∙ found) in
    record {
      after = c.hear_at_once.new.self;
      updates = seen-updates _ c.self.inside.txns c.args.self.now c.self.view_is _ _ c.args.key (Some _)
          (Updates-with_value c.self.inside.txns c.args.key _ (ap is_some c.index_mut.ensures.value));
      serial = c.hear_at_once.ensures.serial ∙ ap (λ (x : Tx). x.serial) same;
      certain = c.hear_at_once.ensures.certain;
      keeps = λ s m. c.hear_at_once.ensures.keeps s
          (subst (λ (x : Tx). MayHear c.args.code.now (asking_under c.args.number c.args.op.now x) s c.args.said.now) (sym same) m);
    }

pub returns-clause-len : goal.returns-clause-len
returns-clause-len c = written-len _ c.self.inside.txns c.args.self.now c.args.key _ c.self.view_is c.requires.key
