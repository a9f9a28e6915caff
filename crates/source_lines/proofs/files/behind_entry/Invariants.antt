use Rattle.std.proofs.Common.{◌≡◌, ◌-◌}
use Rattle.source_lines.specs.Files.{behind_entry}
use Rattle.source_lines.proofs.files.behind_entry.Given as goal

abbrev pub invariant-fields : goal.invariant-fields
invariant-fields l = behind_entry (l.width - l.counter) l.formats l.rest ≡ behind_entry l.width l.fn.formats l.bytes
