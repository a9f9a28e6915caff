use Rattle.std.proofs.Common.{◌≡◌}
use Rattle.std.specs.Prelude.{string_bytes}
use Rattle.std.specs.List.{flat_map, list_any}
use Rattle.std.specs.Option.{option_map}
use Rattle.object_file.specs.LineSections.{line_bytes}
use Rattle.text_commands.specs.ObjectVerification.{found_line, is_found_refused}
use Rattle.text_commands.proofs.object_verification.verdicts.Given as goal

abbrev pub invariant-found : goal.invariant-found
invariant-found l =
    (goal.iterator-found).can_next l.procedure-iterator ×
    (goal.iterator-found).is_finite l.procedure-iterator ×
    (string_bytes l.lines ≡ flat_map (found_line (option_map line_bytes l.table)) l.yielded) × (l.has_refused ≡ list_any is_found_refused l.yielded)
