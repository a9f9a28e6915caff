use Rattle.std.proofs.Common.{◌∙◌, ◌++◌, ◌<◌, ℕ, List, length, ap, arith}
use Rattle.std.specs.Prelude.{string_bytes}
use Rattle.data_component.specs.Store.{Store}
use Rattle.run_calls.specs.Figures.{full_line}
use Rattle.run_calls.proofs.FullLemmas.{one_more}
use Rattle.run_calls.proofs.figures.full_dcs.Goals as goal

pub loop-number-preserved : goal.loop-number-preserved
loop-number-preserved c =
    let lt : c.loop-number.number < length c.args.dcs.now = omega arith in
    one_more (string_bytes c.loop-number.text) (string_bytes c.push_str.new.self) c.args.dcs.now c.loop-number.number
    c.index-dcs-number.result lt c.loop-number.invariant
    (c.in_ok-push_str.ensures.bytes
    ∙ (ap (λ (text : List ℕ). string_bytes c.loop-number.text ++ text) (c.as_str.ensures.value ∙ c.in_ok-line.ensures)
    ∙ ap (λ (d : Store). string_bytes c.loop-number.text ++ full_line c.loop-number.number d) c.index-dcs-number.is))
