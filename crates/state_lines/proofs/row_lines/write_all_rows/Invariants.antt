use Rattle.std.proofs.Common.{take}
use Rattle.std.specs.Prelude.{string_bytes}
use Rattle.state_lines.specs.RowLines.{AddsRowLines}
use Rattle.state_lines.proofs.row_lines.write_all_rows.Given as goal

abbrev pub invariant-loop-dc : goal.invariant-loop-dc
invariant-loop-dc l = AddsRowLines (take l.dc-index l.dcs) (string_bytes l.fn.lines) (string_bytes l.lines)
