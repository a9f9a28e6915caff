use Rattle.std.proofs.Common.{◌≡◌, ◌++◌}
use Rattle.std.specs.Prelude.{string_bytes}
use Rattle.run_calls.specs.AnswerLines.{slot_lines}
use Rattle.run_calls.proofs.answer_lines.write_slots.Given as goal

abbrev pub invariant-loop-slot : goal.invariant-loop-slot
invariant-loop-slot l = string_bytes l.lines ≡ string_bytes l.fn.lines ++ slot_lines l.state.procs l.state.events l.label l.end l.slot
