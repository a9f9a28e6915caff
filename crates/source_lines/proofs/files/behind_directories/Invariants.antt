use Rattle.std.proofs.Common.{◌≡◌, ◌-◌, length}
use Rattle.source_lines.specs.Files.{behind_directories}
use Rattle.source_lines.proofs.files.behind_directories.Given as goal

abbrev pub invariant-directories : goal.invariant-directories
invariant-directories l = behind_directories (length l.tables - l.counter) l.rest ≡ behind_directories (length l.tables) l.tables
