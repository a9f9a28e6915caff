use Rattle.std.proofs.Common.{◌≡◌, ◌∙◌, ap, sym, subst, map, List, None}
use Rattle.access_slots.specs.Declaration.{Declaration}
use Rattle.std.specs.Arc.{arc_value}
use Rattle.indexmap.specs.IndexMap.{values}
use Rattle.verifier.specs.Checked.{Checked}
use Rattle.transactions.specs.Reached.{AllGood}
use Rattle.tc_core.specs.Loaded.{unknown_dc, AllReach}
use Rattle.tc_core.proofs.LoadedLemmas.{now_good, now_reach}
use Rattle.tc_core.proofs.procs.Procs.load.Goals as goal
use Rattle.tc_core.proofs.procs.Procs.load.Goals.{in-Ok, in-Err}

pub invariant_of-self : goal.invariant_of-self
invariant_of-self c =
    let dcs = c.self.inside.dcs in
    let old = map arc_value (values c.self.inside.by_name) in
    let q = c.args.code in
    let slots = c.slots.ensures.value ∙ ap (λ (d : Declaration). d.slots) c.decl.ensures in
    let here : unknown_dc dcs q.decl.slots ≡ None = sym (ap (unknown_dc dcs) slots) ∙ (sym c.unknown_dc.ensures ∙ c.in_default.is) in
    elim c.match-add.branch [
      | in-Ok w ↦ (
        now_good old _ q w.in-Ok.ensures.codes c.self.invariant.0 c.good.ensures,
        now_reach dcs old _ q w.in-Ok.ensures.codes c.self.invariant.1 here,
      )
      | in-Err w ↦
          let same = ap (λ es. map arc_value (map (λ e. e.1) es)) w.in-Err.ensures.err in (
            subst (λ (xs : List Checked). AllGood xs) (sym same) c.self.invariant.0,
            subst (λ (xs : List Checked). AllReach dcs xs) (sym same) c.self.invariant.1,
          )
    ]
