use Rattle.std.proofs.Common.{◌≡◌, ◌++◌, take}
use Rattle.std.specs.Prelude.{string_bytes}
use Rattle.state_lines.specs.RowLines.{row_lines}
use Rattle.state_lines.proofs.row_lines.write_rows.Given as goal

abbrev pub invariant-loop-row : goal.invariant-loop-row
invariant-loop-row l = string_bytes l.lines ≡ string_bytes l.fn.lines ++ row_lines (take l.row-index l.rows)
