use Rattle.std.proofs.Common.{◌≡◌, ◌-◌}
use Rattle.source_lines.specs.Files.{path_four}
use Rattle.source_lines.proofs.files.path_four.Given as goal

abbrev pub invariant-files : goal.invariant-files
invariant-files l = path_four (l.file - l.before) l.rest ≡ path_four l.file l.entries
