use Rattle.std.proofs.Common.{◌≡◌}
use Rattle.std.specs.Prelude.{string_bytes}
use Rattle.std.specs.List.{flat_map, list_any}
use Rattle.text_commands.specs.Verification.{procedure_line, is_refused}
use Rattle.text_commands.proofs.verification.verified.Given as goal

abbrev pub invariant-procedures : goal.invariant-procedures
invariant-procedures l =
    (goal.iterator-procedures).can_next l.procedure-iterator ×
    (goal.iterator-procedures).is_finite l.procedure-iterator ×
    (string_bytes l.lines ≡ flat_map procedure_line l.yielded) × (l.has_refused ≡ list_any is_refused l.yielded)
