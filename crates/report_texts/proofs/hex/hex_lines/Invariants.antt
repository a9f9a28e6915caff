use Rattle.std.proofs.Common.{◌≡◌, ◌++◌, drop}
use Rattle.std.specs.Prelude.{string_bytes}
use Rattle.report_texts.specs.Hex.{hex_text_from, hex_lines}
use Rattle.report_texts.proofs.hex.hex_lines.Given as goal

abbrev pub invariant-bytes : goal.invariant-bytes
invariant-bytes l = string_bytes l.text ++ hex_text_from l.at (drop l.at l.bytes) ≡ hex_lines l.bytes
