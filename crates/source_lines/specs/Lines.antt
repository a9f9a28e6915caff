-- The line of the source that a place of a section comes from.
use Rattle.std.specs.Prelude.{ℕ, zero, suc, ◌-◌, ◌/◌, ◌==◌, ◌||◌, nat_lt, nat_le, if◌then◌else◌}
use Rattle.std.specs.Prelude.{List, length, take, drop, Option, Some, None}
use Rattle.object_file.specs.Elf.{word_at}
use Rattle.object_file.specs.LineSections.{LineBytes, line_sections_said}
use Rattle.source_lines.specs.Files.{path_said, base_name}
use Rattle.source_lines.specs.Machine.{Around, relocations_from}
use Rattle.source_lines.specs.Numbers.{◌>>=◌}
use Rattle.source_lines.specs.Rows.{rows_of, covering}
use Rattle.source_lines.specs.Unit.{Fields, program_in}
use Rattle.source_lines.specs.declared.lines.TheConstants.{MOST_NAME}
use Rattle.source_lines.specs.declared.lines.SourceLine.{SourceLine}
use Rattle.source_lines.specs.declared.machine.Registers.{Registers}
use Rattle.source_lines.specs.declared.rows.Place.{Place}

pub record Line : Type 0 where
  pub file : List ℕ
  pub line : ℕ

abbrev pub shown_line : SourceLine → Line
shown_line l = record { file = l.file.now; line = l.line }

-- ---- in a unit

-- a file's name has 1 to MOST_NAME bytes
abbrev pub line_of : List ℕ → ℕ → Option Line
line_of name line = if (length name == 0) || nat_lt MOST_NAME (length name) then None else Some (record { file = name; line = line })

-- line 0 is of no source
abbrev pub named : List ℕ → Fields → Registers → Option Line
named strings p r = if r.line == 0 then None else path_said strings r.file p >>= λ path. line_of (base_name path) r.line

abbrev pub line_by : List ℕ → Around → Place → Fields → Option Line
line_by strings a place p = covering place (rows_of p a) >>= λ row. named strings p row

abbrev pub line_in : List ℕ → Around → Place → List ℕ → Option Line
line_in strings a place unit = program_in unit >>= λ p. line_by strings a place p

-- ---- in .debug_line

-- `unit_length`, which is of the 32-bit format (DWARF 5, section 7.4), and so many bytes
abbrev pub unit_at : List ℕ → Option (List ℕ × List ℕ)
unit_at bytes =
    if nat_lt (length bytes) 4 then None else
    if nat_le 0xffff_fff0 (word_at 0 bytes) then None else
    if nat_lt (length (drop 4 bytes)) (word_at 0 bytes) then None else
    Some (take (word_at 0 bytes) (drop 4 bytes), drop (word_at 0 bytes) (drop 4 bytes))

abbrev pub or_else : Option Line → Option Line → Option Line
or_else None others = others
or_else (Some line) others = Some line

abbrev pub left_at : LineBytes → List ℕ → List ℕ → List ℕ
left_at s relocations bytes = relocations_from (length relocations / 16) (length s.lines - length bytes) relocations

abbrev pub around_unit : LineBytes → List ℕ → List ℕ → Around
around_unit s relocations rest = record { end = length s.lines - length rest; symbols = s.symbols; relocations = relocations }

-- the first line that one of so many units says, up to what isn't one
abbrev pub line_within : ℕ → LineBytes → Place → List ℕ → List ℕ → Option Line
line_within zero s place relocations bytes = None
line_within (suc n) s place relocations bytes = unit_at bytes >>= λ (unit, rest).
    or_else (line_in s.strings (around_unit s (left_at s relocations bytes) rest) place unit)
    (line_within n s place (left_at s relocations bytes) rest)

-- each unit has a byte at least
abbrev pub line_at : LineBytes → Place → Option Line
line_at s place = line_within (length s.lines) s place s.relocations s.lines

-- of an object file, by the number of a section
abbrev pub line_said : List ℕ → Place → Option Line
line_said file place = line_sections_said file >>= λ s. line_at s place
