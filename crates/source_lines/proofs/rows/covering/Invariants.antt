use Rattle.std.proofs.Common.{◌≡◌, ◌-◌, length}
use Rattle.source_lines.specs.Machine.{around}
use Rattle.source_lines.specs.Rows.{rows_of, covering}
use Rattle.source_lines.specs.Unit.{shown}
use Rattle.source_lines.proofs.Searching.{to_come}
use Rattle.source_lines.proofs.rows.covering.Given as goal

abbrev pub invariant-opcodes : goal.invariant-opcodes
invariant-opcodes l =
    to_come l.place (length l.program.opcodes.now - l.counter) (shown l.program) (around l.context) l.registers l.before l.rest
    ≡ covering l.place (rows_of (shown l.program) (around l.fn.context))
