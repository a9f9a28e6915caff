-- How a section is called, and what its relocations refer to (System V ABI, gABI 4.1: "Sections", "Symbol Table", "Relocation").
use Rattle.std.specs.Prelude.{ℕ, ◌*◌, ◌%◌, ◌==◌, if◌then◌else◌, List, slice_get, Option, Some, None}
use Rattle.std.specs.Option.{option_map}
use Rattle.std.specs.List.{position}
use Rattle.object_file.specs.Elf.{half_at, word_at, long_at, part_of, string_at, relocates, tables_said}
use Rattle.object_file.specs.LineSections.{bytes_at, linked}
use Rattle.object_file.specs.declared.elf.Header.{Header}
use Rattle.object_file.specs.declared.referring.Reference.{Reference}

abbrev pub name_of : List ℕ → Option Header → Option (List ℕ)
name_of names None = None
name_of names (Some h) = string_at h.name names

-- the name of the section of a number
abbrev pub name_at : List ℕ → List Header → ℕ → Option (List ℕ)
name_at names headers number = name_of names (slice_get headers number)

-- st_info's lower half says STT_SECTION (3): the symbol is the section st_shndx. Else its name is at st_name
abbrev pub symbol_by : List ℕ → List ℕ → List Header → (symbols : Option ℕ) → Option (List ℕ) → Option (List ℕ)
symbol_by file names headers symbols None = None
symbol_by file names headers symbols (Some entry) =
    if half_at 4 entry % 16 == 3 then name_at names headers (half_at 6 entry) else
    string_at (word_at 0 entry) (bytes_at file headers (linked headers symbols))

-- an Elf64_Sym has 24 bytes; the strings of a symbol table are the section sh_link
abbrev pub symbol_name : List ℕ → List ℕ → List Header → (symbols : Option ℕ) → ℕ → Option (List ℕ)
symbol_name file names headers symbols number =
    symbol_by file names headers symbols (part_of (bytes_at file headers symbols) (24 * number) 24)

-- a place of a section that is to be relocated, and the name of what it refers to, where that has one
pub record Referred : Type 0 where
  pub place : ℕ
  pub symbol : Option (List ℕ)

abbrev pub referred : Reference → Referred
referred r = record { place = r.place; symbol = option_map (λ name. name.now) r.symbol }

-- an Elf64_Rel or Elf64_Rela begins with r_offset and r_info, whose upper half is the symbol's number
abbrev pub reference_by : List ℕ → List ℕ → List Header → (symbols : Option ℕ) → Option (List ℕ) → Option Referred
reference_by file names headers symbols None = None
reference_by file names headers symbols (Some entry) =
    Some (record { place = long_at 0 entry; symbol = symbol_name file names headers symbols (word_at 12 entry) })

-- the first one of a section with relocations
abbrev pub reference_in : List ℕ → List ℕ → List Header → (relocations : Option ℕ) → Option Referred
reference_in file names headers relocations =
    reference_by file names headers (linked headers relocations) (part_of (bytes_at file headers relocations) 0 16)

-- the first one of the section of this number
abbrev pub reference_at : List ℕ → List ℕ → List Header → ℕ → Option Referred
reference_at file names headers number = reference_in file names headers (position (relocates number) headers)

abbrev pub name_by_tables : Option (List Header × List ℕ) → ℕ → Option (List ℕ)
name_by_tables (Some tables) number = name_at tables.1 tables.0 number
name_by_tables None number = None

-- the name of a section of a file
abbrev pub section_name_said : List ℕ → ℕ → Option (List ℕ)
section_name_said file number = name_by_tables (tables_said file) number

abbrev pub reference_by_tables : List ℕ → Option (List Header × List ℕ) → ℕ → Option Referred
reference_by_tables file (Some tables) number = reference_at file tables.1 tables.0 number
reference_by_tables file None number = None

-- the first place of a section that is to be relocated
abbrev pub reference_said : List ℕ → ℕ → Option Referred
reference_said file number = reference_by_tables file (tables_said file) number
