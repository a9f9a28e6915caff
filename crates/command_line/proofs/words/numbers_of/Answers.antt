use Rattle.std.proofs.Common.{◌∙◌, ◌<◌, ℕ, ap, List, [], length, map, option_map, arith, rules}
use Rattle.std.proofs.lemmas.Grind.{common_steps}
use Rattle.std.proofs.lemmas.Option.{slice_get-map, slice_get-get_or, slice_get_within}
use Rattle.std.proofs.lemmas.List.{length-map}
use Rattle.std.specs.Borrow.{Bor}
use Rattle.command_line.proofs.Wishes.{more_numbers}
use Rattle.command_line.proofs.words.numbers_of.Goals as goal

pub returns-in_default-clause-numbers : goal.returns-in_default-clause-numbers
returns-in_default-clause-numbers c = λ all.
    let h = c.in_default.ensures.value in
    let texts = c.args.texts.now in
    let i = c.loop-given.given-index in
    let d : Bor (List ℕ) = record { ref_ptr = (0, 0); now = [] } in
    let lt : i < length texts = search rules in
    absurd (h.0 (all i _ (slice_get-map (λ (s : Bor (List ℕ)). s.now) texts i ∙ ap (option_map (λ (s : Bor (List ℕ)). s.now)) (slice_get-get_or texts i d lt))))

pub returns-in_default-clause-err : goal.returns-in_default-clause-err
returns-in_default-clause-err c =
    let h = c.in_default.ensures.value in
    let texts = c.args.texts.now in
    let i = c.loop-given.given-index in
    let d : Bor (List ℕ) = record { ref_ptr = (0, 0); now = [] } in
    let lt : i < length texts = search rules in
    ((i, slice_get-map (λ (s : Bor (List ℕ)). s.now) texts i ∙ ap (option_map (λ (s : Bor (List ℕ)). s.now)) (slice_get-get_or texts i d lt)), h.0)

pub loop-given-preserved : goal.loop-given-preserved
loop-given-preserved c =
    let texts = c.args.texts.now in
    let i = c.loop-given.given-index in
    let d : Bor (List ℕ) = record { ref_ptr = (0, 0); now = [] } in
    let lt : i < length texts = search rules in
    let at = slice_get-map (λ (s : Bor (List ℕ)). s.now) texts i ∙ ap (option_map (λ (s : Bor (List ℕ)). s.now)) (slice_get-get_or texts i d lt) in
    (grind (arith, common_steps), more_numbers (map (λ (s : Bor (List ℕ)). s.now) texts) i _ at c.in-Ok.ensures.value.0.0 c.loop-given.invariant.1)

pub returns-clause-all : goal.returns-clause-all
returns-clause-all c = λ k t at.
    let texts = c.args.texts.now in
    let within = slice_get_within (map (λ (s : Bor (List ℕ)). s.now) texts) k t at in
    let long = length-map texts (λ (s : Bor (List ℕ)). s.now) in
    let lt : k < c.loop-given.given-index = search rules in
    c.loop-given.invariant.1 k t lt at
