use Rattle.std.proofs.Common.{◌≡◌, ◌-◌}
use Rattle.source_lines.specs.Files.{behind_entries}
use Rattle.source_lines.proofs.files.behind_entries.Given as goal

abbrev pub invariant-entries : goal.invariant-entries
invariant-entries l = behind_entries (l.count - l.counter) l.width l.formats l.rest ≡ behind_entries l.count l.width l.formats l.bytes
