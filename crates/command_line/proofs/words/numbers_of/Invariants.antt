use Rattle.std.proofs.Common.{◌≡◌, ℕ, ◌<◌, List, Some, take, map}
use Rattle.std.specs.Prelude.{slice_get}
use Rattle.command_line.specs.Said.{SaysNumber, value_of}
use Rattle.command_line.proofs.words.numbers_of.Given as goal

abbrev pub invariant-loop-given : goal.invariant-loop-given
invariant-loop-given l =
    (l.numbers.items ≡ map value_of (map (λ s. s.now) (take l.given-index l.texts)))
    × ((k : ℕ) (t : List ℕ) → k < l.given-index → slice_get (map (λ s. s.now) l.texts) k ≡ Some t → SaysNumber t)
