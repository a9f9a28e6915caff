use Rattle.std.proofs.Common.{rules, tests, ◌-◌, length, take, drop, ◌∙◌}
use Rattle.std.specs.Prelude.{reverse}
use Rattle.std.proofs.lemmas.List.{take_rest}
use Rattle.std.proofs.lemmas.Iterator.{YieldsList-from_slice}
use Rattle.std.proofs.lemmas.Iterator.Adapters.{YieldsList-from_rev_slice}
use Rattle.std.proofs.lemmas.Iterator.Consumers.{count_from_yields_List}
use Rattle.std.proofs.lemmas.Iterator.Search.{YieldsList-from_take_while}
use Rattle.std.proofs.lemmas.List.Folds.{length-prefix_len}
use Rattle.bpf_asm.specs.Cutting.{trim, is_blank}
use Rattle.bpf_asm.proofs.cut.trim.Goals as goal

pub returns : goal.returns
unfolding trim
returns c =
    let text = c.args.text.now in
    let start = count_from_yields_List c.take_while.result _ c.count-start.ensures.ran
    (YieldsList-from_take_while _ is_blank (YieldsList-from_slice text (cc))
    c.take_while.ensures.closure c.take_while.ensures.done (λ x b q k. search (rules, tests)))
    ∙ length-prefix_len is_blank text in
    let rest = take (length text - c.count-start.result) (drop c.count-start.result text) in
    let trailing = count_from_yields_List c.take_while-2.result _ c.count-trailing.ensures.ran
    (YieldsList-from_take_while _ is_blank (YieldsList-from_rev_slice rest (cc))
    c.take_while-2.ensures.closure c.take_while-2.ensures.done (λ x b q k. search (rules, tests)))
    ∙ length-prefix_len is_blank (reverse rest) in
    rw (trailing, take_rest, start)
