-- The sections that say of which lines of a source code is (DWARF 5, section 6.2), and how to relocate them.
use Rattle.std.specs.Prelude.{ℕ, List, [], codes, slice_get, Option, Some, None}
use Rattle.std.specs.List.{position}
use Rattle.std.specs.Option.{option_map}
use Rattle.object_file.specs.Elf.{part_of, is_named, relocates_in_place, tables_said}
use Rattle.object_file.specs.declared.elf.Header.{Header}
use Rattle.object_file.specs.declared.lines.LineSections.{LineSections}

pub record LineBytes : Type 0 where
  pub lines : List ℕ
  pub strings : List ℕ
  pub relocations : List ℕ
  pub symbols : List ℕ

abbrev pub line_bytes : LineSections → LineBytes
line_bytes s = record { lines = s.lines.now; strings = s.strings.now; relocations = s.relocations.now; symbols = s.symbols.now }

abbrev pub or_none : Option (List ℕ) → List ℕ
or_none None = []
or_none (Some bytes) = bytes

abbrev pub bytes_of : List ℕ → Option Header → List ℕ
bytes_of file None = []
bytes_of file (Some h) = or_none (part_of file h.offset h.size)

-- the bytes of a section, none where there is no such section, or they aren't in the file
abbrev pub bytes_at : List ℕ → List Header → Option ℕ → List ℕ
bytes_at file headers None = []
bytes_at file headers (Some number) = bytes_of file (slice_get headers number)

-- the first section of this name
abbrev pub number_named : List ℕ → List Header → List ℕ → Option ℕ
number_named names headers name = position (is_named names name) headers

-- the first one with relocations of the section of this number
abbrev pub relocations_of : List Header → ℕ → Option ℕ
relocations_of headers number = position (relocates_in_place number) headers

-- sh_link of a section of relocations: its symbol table
abbrev pub linked : List Header → Option ℕ → Option ℕ
linked headers None = None
linked headers (Some number) = option_map (λ h. h.link) (slice_get headers number)

abbrev pub lines_at : List ℕ → List ℕ → List Header → ℕ → LineBytes
lines_at file names headers number = record {
  lines = bytes_at file headers (Some number);
  strings = bytes_at file headers (number_named names headers (codes ".debug_line_str"));
  relocations = bytes_at file headers (relocations_of headers number);
  symbols = bytes_at file headers (linked headers (relocations_of headers number));
}

abbrev pub lines_in : List ℕ → List ℕ → List Header → Option LineBytes
lines_in file names headers = option_map (lines_at file names headers) (number_named names headers (codes ".debug_line"))

abbrev pub lines_by_tables : List ℕ → Option (List Header × List ℕ) → Option LineBytes
lines_by_tables file (Some tables) = lines_in file tables.1 tables.0
lines_by_tables file None = None

-- those of an object file, if it has a line table
abbrev pub line_sections_said : List ℕ → Option LineBytes
line_sections_said file = lines_by_tables file (tables_said file)
