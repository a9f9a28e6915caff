use Rattle.std.proofs.Common.{arith, ◌<◌, ◌++◌, List, [], ◌∷◌, length, take, sym, ap, subst, ◌∙◌}
use Rattle.std.specs.Prelude.{string_bytes}
use Rattle.std.proofs.lemmas.List.{take_more}
use Rattle.data_component.specs.Store.{Store}
use Rattle.state_lines.specs.RowLines.{AddsRowLines}
use Rattle.state_lines.proofs.RowLemmas.{one_added}
use Rattle.state_lines.proofs.row_lines.write_all_rows.Goals as goal

pub loop-dc-preserved : goal.loop-dc-preserved
loop-dc-preserved c =
    let i = c.loop-dc.dc-index in
    let d = c.dc-item.result in
    let dcs : List Store = c.args.dcs.now in
    let old = string_bytes c.args.lines.now in
    let new = string_bytes c.write_rows.new.lines in
    let below : i < length dcs = omega arith in
    let more = take_more dcs i d below ∙ ap (λ (x : Store). take i dcs ++ x ∷ []) (sym c.dc-item.is) in
    let added = one_added (take i dcs) d c.rows.result.now old (string_bytes c.loop-dc.lines) new c.loop-dc.invariant c.rows.ensures.rows c.in_ok-write_rows.ensures in
    subst (λ (ds : List Store). AddsRowLines ds old new) (sym more) added
