-- What is done with a file: it is refused, or followed, which standard input never is; or it is read to its end.
use Rattle.std.specs.Prelude.{◌≡◌, ◌⊎◌, ℕ, List, Some, None, codes}
use Rattle.command_line.specs.Task.{Wish}
use Rattle.procd.specs.Streams.{IsLog, followed_part}
use Rattle.procd.specs.declared.program.Way.{Way}
use Rattle.procd.specs.declared.program.Way.TheVariants.{Refused, Followed, Read}

abbrev pub IsWay : List ℕ → Wish → Way → Type 0
IsWay file wish (Refused kind) = (¬ (file ≡ codes "-")) × IsLog wish
IsWay file wish (Followed part) = (¬ (file ≡ codes "-")) × (followed_part wish ≡ Some part)
IsWay file wish Read = (followed_part wish ≡ None) ⊎ (file ≡ codes "-")
