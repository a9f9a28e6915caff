use Rattle.std.proofs.Common.{◌≡◌, ◌++◌, drop}
use Rattle.std.specs.Prelude.{string_bytes}
use Rattle.std.specs.List.{flat_map}
use Rattle.object_procedures.specs.Refusal.{object_refusal}
use Rattle.text_commands.proofs.object_verification.refusal_lines.Given as goal

abbrev pub invariant-refusals : goal.invariant-refusals
invariant-refusals l =
    string_bytes l.lines ++ flat_map (object_refusal l.file) (drop l.why-index l.refusals) ≡ flat_map (object_refusal l.file) l.refusals
