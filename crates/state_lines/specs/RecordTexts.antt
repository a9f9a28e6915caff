-- Records and values as text.
use Rattle.std.specs.Prelude.{ℕ, ◌==◌, if◌then◌else◌, List, ◌++◌, take, drop, codes, decimal}
use Rattle.std.specs.Int.{w64, from_le_bytes}
use Rattle.std.specs.List.{list_all}
use Rattle.access_slots.specs.declared.slot.Record.{Record}
use Rattle.report_texts.specs.Hex.{hex_text}

-- DC/TABLE/KEY
abbrev pub record_text : Record → List ℕ
record_text r = decimal r.dc ++ (codes "/" ++ (decimal r.table ++ (codes "/" ++ decimal r.key)))

-- the number that the first eight bytes say, the lowest first, where the others are zero; else `x` and all bytes in hex
abbrev pub value_text : List ℕ → List ℕ
value_text v = if list_all (λ b. b == 0) (drop 8 v) then decimal (from_le_bytes w64 (take 8 v)) else codes "x" ++ hex_text v
