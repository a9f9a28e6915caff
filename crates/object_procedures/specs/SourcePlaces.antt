-- What is printed of the line that a slot comes from.
use Rattle.std.specs.Prelude.{ℕ, ◌*◌, ◌&&◌, nat_le, if◌then◌else◌, List, [], ◌++◌, map, codes, decimal, Option, Some, None}
use Rattle.bpf_encoding.specs.declared.decode.DecodeFault.{DecodeFault}
use Rattle.bpf_encoding.specs.declared.decode.DecodeFault.TheVariants.{WideCut, UnusedField, Undefined, OutsideProfile}
use Rattle.object_file.specs.LineSections.{LineBytes}
use Rattle.source_lines.specs.Lines.{Line, line_at}
use Rattle.source_lines.specs.Numbers.{wrapped}

-- a byte that is no visible character of ASCII is shown as a question mark
abbrev pub shown_byte : ℕ → ℕ
shown_byte byte = if nat_le 33 byte && nat_le byte 126 then byte else 63

abbrev pub file_text : List ℕ → List ℕ
file_text file = map shown_byte file

-- behind a blank, the file's name and the line, if there is one
abbrev pub place_text : Option Line → List ℕ
place_text None = []
place_text (Some l) = codes " " ++ (file_text l.file ++ (codes ":" ++ decimal l.line))

-- the line of a slot of a section, where there is a line table that says it; a slot has 8 bytes
abbrev pub slot_line : Option LineBytes → ℕ → ℕ → Option Line
slot_line None section slot = None
slot_line (Some lines) section slot = line_at lines (record { section = section; address = wrapped (slot * 8) })

abbrev pub slot_text : Option LineBytes → ℕ → ℕ → List ℕ
slot_text lines section slot = place_text (slot_line lines section slot)

-- the slot that a fault of decoding names
abbrev pub fault_slot : DecodeFault → Option ℕ
fault_slot (WideCut slot) = Some slot
fault_slot (UnusedField slot) = Some slot
fault_slot (Undefined slot) = Some slot
fault_slot (OutsideProfile slot which) = Some slot
fault_slot _ = None

abbrev pub said_of : (ℕ → List ℕ) → Option ℕ → List ℕ
said_of said None = []
said_of said (Some slot) = said slot

-- the line of the slot that a fault of a section's bytes names, if it names one
abbrev pub fault_text : Option LineBytes → ℕ → DecodeFault → List ℕ
fault_text lines section fault = said_of (slot_text lines section) (fault_slot fault)
