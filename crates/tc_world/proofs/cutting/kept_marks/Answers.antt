use Rattle.std.proofs.Common.{◌≡◌, ℕ, ◌+◌, ◌<◌, List, [], ◌∷◌, ◌++◌, length, take, arith, sym, ◌∙◌, ap}
use Rattle.std.proofs.lemmas.List.{take_more, length-take-le}
use Rattle.history.specs.Flight.{low_water}
use Rattle.data_component.specs.Store.{Store}
use Rattle.transactions.specs.declared.Site.{Site}
use Rattle.tc_world.specs.Cutting.{kept_by, kept_at, marks_from}
use Rattle.tc_world.proofs.CutLemmas.{marks_more}
use Rattle.tc_world.proofs.cutting.kept_marks.Goals as goal

pub loop-d-preserved : goal.loop-d-preserved
loop-d-preserved c =
    let dcs = c.args.dcs.now in
    let d = c.loop-d.d in
    let low = low_water c.args.state.now.events in
    let sites = c.args.state.now.sites in
    let x : Store = c.index-dcs-d.result in
    let inside : d < length dcs = omega (arith, c.loop-d-test.true) in
    let more : take (d + 1) dcs ≡ take d dcs ++ x ∷ [] = take_more dcs d x inside ∙ ap (λ (y : Store). take d dcs ++ y ∷ []) (sym c.index-dcs-d.is) in
    let count : length (take d dcs) ≡ d = length-take-le d dcs (omega (arith, inside)) in
    let place : 0 + length (take d dcs) ≡ d = omega (arith, count) in
    let mark : c.kept_mark.result ≡ (kept_at low sites (0 + length (take d dcs)) x).saved_mark
    = c.kept_mark.ensures ∙ (ap (λ (n : ℕ). (kept_by n c.site.result.incarnation x).saved_mark) c.low_water-low_water.ensures
    ∙ (ap (λ (t : Site). (kept_by low t.incarnation x).saved_mark) c.site.ensures ∙ ap (λ (i : ℕ). (kept_at low sites i x).saved_mark) (sym place))) in
    c.in_ok-push.ensures.items
    ∙ (ap (λ (ms : List ℕ). ms ++ c.kept_mark.result ∷ []) c.loop-d.invariant
    ∙ (ap (λ (m : ℕ). marks_from low sites 0 (take d dcs) ++ m ∷ []) mark
    ∙ (sym (marks_more low sites 0 (take d dcs) x) ∙ ap (marks_from low sites 0) (sym more))))
