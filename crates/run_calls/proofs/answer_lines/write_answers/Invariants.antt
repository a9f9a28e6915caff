use Rattle.std.proofs.Common.{◌≡◌, ◌++◌, take}
use Rattle.std.specs.Prelude.{string_bytes}
use Rattle.run_calls.specs.AnswerLines.{answer_lines}
use Rattle.run_calls.proofs.answer_lines.write_answers.Given as goal

abbrev pub invariant-loop-place : goal.invariant-loop-place
invariant-loop-place l = string_bytes l.lines ≡ string_bytes l.fn.lines ++ answer_lines l.word (take l.place l.answers)
