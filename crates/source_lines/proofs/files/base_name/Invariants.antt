use Rattle.std.proofs.Common.{◌≡◌, length}
use Rattle.source_lines.specs.Files.{base_name, behind_slashes}
use Rattle.source_lines.proofs.files.base_name.Given as goal

abbrev pub invariant-bytes : goal.invariant-bytes
invariant-bytes l = behind_slashes l.name l.rest ≡ base_name l.path

abbrev pub decreases-bytes : goal.decreases-bytes
decreases-bytes l = length l.rest
