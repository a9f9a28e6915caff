use Rattle.std.proofs.Common.{arith, ◌<◌, ◌++◌, List, [], ◌∷◌, length, take, sym, ap, subst, ◌∙◌}
use Rattle.std.proofs.lemmas.List.{take_more}
use Rattle.data_component.specs.Sorted.{Rows}
use Rattle.data_component.specs.Store.{Store}
use Rattle.run_log.specs.Anew.{AreAllRows}
use Rattle.run_log.proofs.AnewLemmas.{rows_push}
use Rattle.run_log.proofs.anew.base_of.Goals as goal

pub dcs-preserved : goal.dcs-preserved
dcs-preserved c =
    let i = c.dcs.dc-index in
    let d = c.dc-item.result in
    let dcs : List Store = c.args.dcs.now in
    let below : i < length dcs = omega arith in
    let more = take_more dcs i d below ∙ ap (λ (x : Store). take i dcs ++ x ∷ []) (sym c.dc-item.is) in
    let pushed = rows_push (take i dcs) d c.dcs.base.items c.rows.result.now c.dcs.invariant c.rows.ensures.rows in
    subst (λ (ds : List Store). AreAllRows ds c.extend_from_slice.new.self.items) (sym more)
    (subst (λ (rows : Rows). AreAllRows (take i dcs ++ d ∷ []) rows) (sym c.in_ok-extend_from_slice.ensures.items) pushed)
