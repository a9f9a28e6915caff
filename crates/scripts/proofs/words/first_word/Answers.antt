use Rattle.std.proofs.Common.{rules, tests, arith, ◌∙◌, ap, ap₂, sym, List, ◌∷◌, ℕ, length}
use Rattle.bpf_asm.specs.Cutting.{word_of, rest_of}
use Rattle.scripts.specs.Words.{words_of}
use Rattle.scripts.proofs.WordLemmas.{all_blank, word_first, rest_shorter, whole_rest}
use Rattle.scripts.proofs.words.first_word.Goals as goal

pub returns-in_err-start-clause-none : goal.returns-in_err-start-clause-none
returns-in_err-start-clause-none c = let e = all_blank c.args.text.now (search (rules, tests)) in search (rules, e)

pub returns-clause-some : goal.returns-clause-some
returns-clause-some c =
    let text = c.args.text.now in
    let start = c.in_ok-start.start in
    let whole = whole_rest text start in
    word_first text start (search (rules, tests)) (search (rules, tests)) (search (rules, tests))
    ∙ ap (λ (t : List ℕ). word_of t ∷ words_of (rest_of t)) (sym whole)
    ∙ ap₂ (λ (w r : List ℕ). w ∷ words_of r) (sym c.split_word.ensures.0) (sym c.split_word.ensures.1)

pub returns-clause-shorter : goal.returns-clause-shorter
returns-clause-shorter c =
    let text = c.args.text.now in
    let start = c.in_ok-start.start in
    let e = rest_shorter text start (search (rules, tests)) (search (rules, tests)) in
    let same = ap length c.split_word.ensures.1 ∙ ap (λ (t : List ℕ). length (rest_of t)) (whole_rest text start) in
    omega (arith, e, same)
