use Rattle.std.proofs.Common.{◌≡◌, ◌-◌}
use Rattle.source_lines.specs.Files.{behind_formats}
use Rattle.source_lines.proofs.files.behind_formats.Given as goal

abbrev pub invariant-fields : goal.invariant-fields
invariant-fields l = behind_formats (l.width - l.counter) l.rest ≡ behind_formats l.width l.formats
