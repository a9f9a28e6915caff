use Rattle.std.proofs.Common.{◌≡◌, ◌++◌, take}
use Rattle.std.specs.Prelude.{string_bytes, codes}
use Rattle.run_calls.specs.AnswerLines.{answer_line, lines_from}
use Rattle.run_command.proofs.parts.write_first.Given as goal

abbrev pub invariant-loop-index : goal.invariant-loop-index
invariant-loop-index l =
    string_bytes l.lines ≡ string_bytes l.fn.lines ++ lines_from (answer_line (codes "first")) l.before (take l.index l.new)
