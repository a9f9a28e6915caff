use Rattle.std.proofs.Common.{◌≡◌, ◌∙◌, ◌<◌, ℕ, List, [], ◌∷◌, ◌++◌, length, map, ap, sym, arith, append_assoc}
use Rattle.std.specs.Prelude.{slice_set}
use Rattle.std.specs.Borrow.{Bor}
use Rattle.std.proofs.lemmas.List.{length_push, map-set}
use Rattle.scripts.specs.Words.{words_of}
use Rattle.scripts.proofs.WordLemmas.{first_four, four_more, no_more}
use Rattle.scripts.proofs.words.cut.Goals as goal
use Rattle.scripts.proofs.words.cut.Goals.{then-count-lt4, else-count-lt4}

-- a word that there is room for
put : (words words' : List (Bor (List ℕ))) (count : ℕ) (done : List (List ℕ)) (word : Bor (List ℕ))
    → words' ≡ slice_set words count word → count ≡ length done → count < 4
    → map (λ t. t.now) words ≡ first_four done → map (λ t. t.now) words' ≡ first_four (done ++ word.now ∷ [])
put words words' count done word is at few so_far =
    let now : Bor (List ℕ) → List ℕ = λ t. t.now in
    ap (map now) is ∙ map-set now words count word ∙ ap (λ (ts : List (List ℕ)). slice_set ts count word.now) so_far ∙ ap (λ (k : ℕ). slice_set (first_four done) k word.now) at
    ∙ four_more done word.now (omega (arith, at, few))

pub words-preserved : goal.words-preserved
words-preserved c =
    let i = c.words.invariant in
    let word = c.in-Some.word.now in
    let done = i.0 ++ word ∷ [] in
    let said : words_of c.args.text.now ≡ done ++ words_of c.in-Some.after.now =
    i.1 ∙ ap (λ (ws : List (List ℕ)). i.0 ++ ws) c.in-Some.ensures.some ∙ sym (append_assoc i.0 (word ∷ []) (words_of c.in-Some.after.now)) in
    let n = length_push i.0 word in
    let texts : map (λ (t : Bor (List ℕ)). t.now) c.if-count-lt4.words ≡ first_four done = elim c.if-count-lt4.branch [
      | then-count-lt4 w ↦ put c.words.words c.if-count-lt4.words c.words.count i.0 c.in-Some.word w.words-is i.2 w.if-count-lt4.true i.4
      | else-count-lt4 w ↦ ap (map (λ (t : Bor (List ℕ)). t.now)) w.words-is ∙ i.4 ∙ no_more i.0 word (omega (arith, i.2, w.if-count-lt4.false))
    ] in
    (done, said, omega (arith, i.2, n), omega (arith, i.3, c.in-Some.ensures.shorter), texts)
