use Rattle.std.proofs.Common.{◌≡◌, ◌≤◌, ◌+◌, ℕ, List, ◌++◌, length, map}
use Rattle.scripts.specs.Words.{words_of}
use Rattle.scripts.proofs.WordLemmas.{first_four}
use Rattle.scripts.proofs.words.cut.Given as goal

abbrev pub invariant-words : goal.invariant-words
invariant-words l =
    (done : List (List ℕ)) × (words_of l.text ≡ done ++ words_of l.rest) × (l.count ≡ length done) × (l.count + length
    l.rest ≤ length l.text) × (map (λ t. t.now) l.words ≡ first_four done)

abbrev pub decreases-words : goal.decreases-words
decreases-words l = length l.rest
