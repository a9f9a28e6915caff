use Rattle.std.proofs.Common.{◌≡◌, ◌++◌, take}
use Rattle.std.specs.Prelude.{string_bytes}
use Rattle.run_calls.specs.AnswerLines.{call_lines}
use Rattle.run_calls.proofs.answer_lines.write_calls.Given as goal

abbrev pub invariant-loop-index : goal.invariant-loop-index
invariant-loop-index l =
    string_bytes l.lines ≡ string_bytes l.fn.lines ++ call_lines l.results l.state.procs l.state.events l.before (take l.index l.new)
