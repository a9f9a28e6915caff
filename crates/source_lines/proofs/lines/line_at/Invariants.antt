use Rattle.std.proofs.Common.{◌≡◌, ◌-◌, length}
use Rattle.object_file.specs.LineSections.{line_bytes}
use Rattle.source_lines.specs.Lines.{line_within, line_at}
use Rattle.source_lines.proofs.lines.line_at.Given as goal

abbrev pub invariant-units : goal.invariant-units
invariant-units l =
    line_within (length l.table.lines.now - l.counter) (line_bytes l.table) l.place l.relocations l.rest ≡ line_at (line_bytes l.table) l.place
