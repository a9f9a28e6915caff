-- ELF-64 files, little-endian (System V ABI, gABI 4.1: "ELF Header", "Sections", "String Table").
use Rattle.std.specs.Prelude.{ℕ, zero, suc, ◌+◌, ◌*◌, ◌/◌, Bool, false, ◌==◌, ◌&&◌, ◌||◌, not, nat_lt, if◌then◌else◌}
use Rattle.std.specs.Prelude.{List, [], ◌∷◌, length, take, drop, map, slice_get, Option, Some, None, Result, Ok, Err}
use Rattle.std.specs.List.{position}
use Rattle.std.specs.Str.{bytes_eq}
use Rattle.std.specs.Option.{option_map}
use Rattle.std.specs.Int.{w16, w32, w64, from_le_bytes}
use Rattle.object_file.specs.Gathering.{or_fault}
use Rattle.object_file.specs.declared.elf.Header.{Header}
use Rattle.object_file.specs.declared.elf.TheConstants.{MOST_SECTIONS, MOST_NAME}
use Rattle.object_file.specs.declared.fault.ObjectFault.{ObjectFault}
use Rattle.object_file.specs.declared.fault.ObjectFault.TheVariants.{NotElf, NotLittle64, NotRelocatable, NotBpf}
use Rattle.object_file.specs.declared.fault.ObjectFault.TheVariants.{EntrySize, TooManySections, NoTable, NoNames}

-- ---- numbers, parts and strings

-- Elf64_Half, Elf64_Word, and Elf64_Off or Elf64_Xword, at a place
abbrev pub half_at : ℕ → List ℕ → ℕ
half_at place bytes = from_le_bytes w16 (take 2 (drop place bytes))

abbrev pub word_at : ℕ → List ℕ → ℕ
word_at place bytes = from_le_bytes w32 (take 4 (drop place bytes))

abbrev pub long_at : ℕ → List ℕ → ℕ
long_at place bytes = from_le_bytes w64 (take 8 (drop place bytes))

-- so many bytes from a place on, if they are all in the file
abbrev pub part_of : List ℕ → ℕ → ℕ → Option (List ℕ)
part_of file offset size = if nat_lt (length file) (offset + size) then None else Some (take size (drop offset file))

-- up to the first zero, if that stands behind at most MOST_NAME bytes
abbrev pub string_in : List ℕ → Option (List ℕ)
string_in text = option_map (λ end. take end text) (position (λ byte. byte == 0) (take (MOST_NAME + 1) text))

abbrev pub string_at : ℕ → List ℕ → Option (List ℕ)
string_at place strings = string_in (drop place strings)

-- so many rows of this many bytes, one behind another
abbrev pub rows_in : ℕ → ℕ → List ℕ → List (List ℕ)
rows_in width zero bytes = []
rows_in width (suc n) bytes = take width bytes ∷ rows_in width n (drop width bytes)

-- ---- the section header table

-- e_ident begins with EI_MAG0 to EI_MAG3: 7f and "ELF"
abbrev pub is_elf : List ℕ → Bool
is_elf file = bytes_eq (take 4 file) (127 ∷ 69 ∷ 76 ∷ 70 ∷ [])

-- sh_name, sh_type, sh_offset, sh_size, sh_link and sh_info of an Elf64_Shdr
abbrev pub header_in : List ℕ → Header
header_in entry = record {
  name = word_at 0 entry;
  kind = word_at 4 entry;
  offset = long_at 24 entry;
  size = long_at 32 entry;
  link = word_at 40 entry;
  info = word_at 44 entry;
}

abbrev pub headers_in : List ℕ → List Header
headers_in table = map header_in (rows_in 64 (length table / 64) table)

-- the table of e_shnum entries at e_shoff. It is read where e_ident says ELFCLASS64 and ELFDATA2LSB, e_type ET_REL (1), e_machine EM_BPF
-- (247), and e_shentsize 64
abbrev pub table_said : List ℕ → Result (List ℕ) ObjectFault
table_said file =
    if nat_lt (length file) 64 then Err NotElf else
    if not (word_at 0 file == 0x464c457f) then Err NotElf else
    if not (half_at 4 file == 0x0102) then Err NotLittle64 else
    if not (half_at 16 file == 1) then Err (NotRelocatable (half_at 16 file)) else
    if not (half_at 18 file == 247) then Err (NotBpf (half_at 18 file)) else
    if not (half_at 58 file == 64) then Err (EntrySize (half_at 58 file)) else
    if nat_lt MOST_SECTIONS (half_at 60 file) then Err (TooManySections (half_at 60 file)) else
    or_fault NoTable (part_of file (long_at 40 file) (64 * half_at 60 file))

-- a section of type SHT_STRTAB (3)
abbrev pub strings_of : List ℕ → Option Header → Result (List ℕ) ObjectFault
strings_of file None = Err NoNames
strings_of file (Some h) = if h.kind == 3 then or_fault NoNames (part_of file h.offset h.size) else Err NoNames

-- the string table with the names of sections, which is section e_shstrndx
abbrev pub names_said : List ℕ → List Header → Result (List ℕ) ObjectFault
names_said file headers = strings_of file (slice_get headers (half_at 62 file))

abbrev pub tables_by_names : List Header → Result (List ℕ) ObjectFault → Option (List Header × List ℕ)
tables_by_names headers (Ok names) = Some (headers, names)
tables_by_names headers (Err fault) = None

abbrev pub tables_by_table : List ℕ → Result (List ℕ) ObjectFault → Option (List Header × List ℕ)
tables_by_table file (Ok table) = tables_by_names (headers_in table) (names_said file (headers_in table))
tables_by_table file (Err fault) = None

-- the section header table and the names of sections, where both are there
abbrev pub tables_said : List ℕ → Option (List Header × List ℕ)
tables_said file = tables_by_table file (table_said file)

-- SHT_PROGBITS (1)
abbrev pub has_bits : Header → Bool
has_bits h = h.kind == 1

-- SHT_REL (9) or SHT_RELA (4), for the section of this number
abbrev pub relocates : ℕ → Header → Bool
relocates number h = ((h.kind == 9) || (h.kind == 4)) && (h.info == number)

-- SHT_REL (9): entries say no addends, which stand in that section
abbrev pub relocates_in_place : ℕ → Header → Bool
relocates_in_place number h = (h.kind == 9) && (h.info == number)

abbrev pub is_name : List ℕ → Option (List ℕ) → Bool
is_name name None = false
is_name name (Some own) = bytes_eq own name

abbrev pub is_named : List ℕ → List ℕ → Header → Bool
is_named names name h = has_bits h && is_name name (string_at h.name names)
