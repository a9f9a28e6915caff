use Rattle.std.proofs.Common.{◌≡◌, ◌-◌}
use Rattle.source_lines.specs.Files.{path_in}
use Rattle.source_lines.proofs.files.path_in.Given as goal

abbrev pub invariant-fields : goal.invariant-fields
invariant-fields l = path_in l.strings (l.width - l.counter) l.formats l.rest ≡ path_in l.strings l.width l.fn.formats l.bytes
