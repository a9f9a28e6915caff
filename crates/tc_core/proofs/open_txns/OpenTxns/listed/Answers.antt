use Rattle.std.proofs.Common.{◌≡◌, ◌≢◌, ◌∙◌, ℕ, Option, Some, None, ap, sym, subst}
use Rattle.std.specs.Prelude.{IfSome, IfNone}
use Rattle.slab.specs.Slab.{Slab, get}
use Rattle.transactions.proofs.StandingLemmas.{none_some}
use Rattle.tc_core.specs.AtKey.{StandsAt}
use Rattle.tc_core.specs.Joining.Boxes.{AreKeys}
use Rattle.tc_core.specs.Joining.Keys.{Keys, key_of}
use Rattle.tc_core.specs.declared.transaction.Tx.{Tx}
use Rattle.tc_core.proofs.open_txns.OpenTxns.listed.Goals as goal

found_by : (keys : Keys) (txns : Slab Tx) (serial : ℕ) (o : Option ℕ) → AreKeys keys txns
    → o ≡ key_of keys serial → IfSome o (λ key. StandsAt txns key serial)
found_by keys txns serial None a e = tt
found_by keys txns serial (Some key) a e = a.listed serial key (sym e)

absent_by : (keys : Keys) (txns : Slab Tx) (serial : ℕ) (o : Option ℕ) → AreKeys keys txns
    → o ≡ key_of keys serial → IfNone o ((key : ℕ) (tx : Tx) → get txns key ≡ Some tx → tx.serial ≢ serial)
absent_by keys txns serial (Some key) a e = tt
absent_by keys txns serial None a e = λ key tx at same.
    none_some (key_of keys serial) key (sym e) (ap (key_of keys) (sym same) ∙ a.keyed key tx at)

pub returns-clause-found : goal.returns-clause-found
returns-clause-found c =
    found_by c.self.inside.keys c.args.self.now c.args.serial _
    (subst (λ (s : Slab Tx). AreKeys c.self.inside.keys s) c.self.view_is c.self.invariant.0) c.get.ensures

pub returns-clause-absent : goal.returns-clause-absent
returns-clause-absent c =
    absent_by c.self.inside.keys c.args.self.now c.args.serial _
    (subst (λ (s : Slab Tx). AreKeys c.self.inside.keys s) c.self.view_is c.self.invariant.0) c.get.ensures
