use Rattle.std.proofs.Common.{◌≡◌, List, sym, ◌∙◌, ap, map, subst}
use Rattle.std.specs.Arc.{arc_value}
use Rattle.verifier.specs.Checked.{Checked}
use Rattle.indexmap.specs.IndexMap.{values}
use Rattle.transactions.specs.Reached.{AllGood}
use Rattle.tc_core.specs.Loaded.{Loaded, AllReach}
use Rattle.tc_core.proofs.ListLemmas.{zip-mapped}
use Rattle.tc_core.proofs.procs.Procs.shared.Goals as goal

pub invariant_of-result : goal.invariant_of-result
invariant_of-result c =
    let same : map arc_value (values c.in_ok-by_name.by_name) ≡ map arc_value (values c.self.inside.by_name)
    = zip-mapped _ (λ e. e.1) arc_value (λ x y r. r.1) c.self.inside.by_name.entries c.in_ok-by_name.by_name.entries c.in_ok-by_name.ensures.cases in (
      subst (λ (xs : List Checked). AllGood xs) (sym same) c.self.invariant.0,
      subst (λ (xs : List Checked). AllReach c.self.inside.dcs xs) (sym same) c.self.invariant.1,
    )

pub returns-clause-codes : goal.returns-clause-codes
returns-clause-codes c =
    zip-mapped _ (λ e. e.1) arc_value (λ x y r. r.1) c.self.inside.by_name.entries c.in_ok-by_name.by_name.entries c.in_ok-by_name.ensures.cases
    ∙ ap (λ (l : Loaded). l.codes) c.self.view_is
