use Rattle.std.proofs.Common.{◌≡◌, ◌++◌, drop}
use Rattle.std.specs.Prelude.{string_bytes}
use Rattle.object_procedures.specs.SourcePlaces.{file_text}
use Rattle.object_procedures.proofs.source_place.file_text.Given as goal

abbrev pub invariant-bytes : goal.invariant-bytes
invariant-bytes l = string_bytes l.text ++ file_text (drop l.byte-index l.file) ≡ file_text l.file
