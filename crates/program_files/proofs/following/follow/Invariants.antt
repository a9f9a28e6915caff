use Rattle.std.proofs.Common.{ℕ, List, ◌++◌}
use Rattle.std.specs.Prelude.{string_bytes}
use Rattle.log_command.specs.Following.{HasPrinted}
use Rattle.program_files.specs.Streams.{stream, Gets}
use Rattle.program_files.specs.Following.{TellsSeams}
use Rattle.program_files.proofs.following.follow.Given as goal

-- what was found is printed, but for the lines that come next
abbrev pub invariant-looks : goal.invariant-looks
invariant-looks g l =
    (file : List ℕ) × (printed : List ℕ) × HasPrinted l.fn.part file l.source.followed (printed ++ string_bytes l.lines)
    × Gets (stream (g.W.Write.contents l.fn.out) (g.W.Write.contents l.out)) printed
    × TellsSeams (stream (g.E.Write.contents l.fn.err) (g.E.Write.contents l.err))
