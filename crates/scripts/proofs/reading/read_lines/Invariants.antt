use Rattle.std.proofs.Common.{◌≡◌, length, drop}
use Rattle.std.specs.Str.Lines.{lines}
use Rattle.scripts.specs.Reading.{read_from}
use Rattle.scripts.proofs.reading.read_lines.Given as goal

abbrev pub invariant-lines : goal.invariant-lines
invariant-lines l =
    (goal.iterator-lines).can_next l.line-iterator ×
    (goal.iterator-lines).is_finite l.line-iterator ×
    (l.number ≡ length l.yielded) × (read_from l.command l.number l.reading (drop l.number (lines l.text)) ≡ read_from l.command 0 l.initial.reading (lines l.text))
