use Rattle.std.proofs.Common.{◌≡◌, ◌++◌, drop}
use Rattle.std.specs.Prelude.{string_bytes}
use Rattle.report_texts.specs.Hex.{hex_text}
use Rattle.report_texts.proofs.hex.hex_text.Given as goal

abbrev pub invariant-loop-byte : goal.invariant-loop-byte
invariant-loop-byte l = string_bytes l.text ++ hex_text (drop l.byte-index l.bytes) ≡ hex_text l.bytes
