use Rattle.std.proofs.Common.{◌≡◌, ◌-◌, length, drop}
use Rattle.report_texts.specs.Hex.{hex_from, hex_of, said_before}
use Rattle.report_texts.proofs.hex.bytes_of.Given as goal

abbrev pub invariant-text : goal.invariant-text
invariant-text l = said_before l.bytes.items (hex_from l.at (drop l.at l.text)) ≡ hex_of l.text

abbrev pub decreases-text : goal.decreases-text
decreases-text l = length l.text - l.at
