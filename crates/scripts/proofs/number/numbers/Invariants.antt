use Rattle.std.proofs.Common.{◌≡◌, length}
use Rattle.scripts.specs.Words.{words_of}
use Rattle.scripts.specs.Numbers.{numbers_said}
use Rattle.scripts.proofs.WordLemmas.{behind_numbers}
use Rattle.scripts.proofs.number.numbers.Given as goal

abbrev pub invariant-words : goal.invariant-words
invariant-words l = numbers_said (words_of l.text) ≡ behind_numbers l.numbers.items (numbers_said (words_of l.rest))

abbrev pub decreases-words : goal.decreases-words
decreases-words l = length l.rest
