-- The names of files (DWARF 5, section 6.2.4.1; DWARF 4, section 6.2.4).
use Rattle.std.specs.Prelude.{ℕ, zero, suc, false, ◌==◌, nat_lt, nat_le, if◌then◌else◌, List, [], ◌∷◌, length, take}
use Rattle.std.specs.Prelude.{Option, Some, None}
use Rattle.object_file.specs.Elf.{word_at}
use Rattle.source_lines.specs.Numbers.{◌>>=◌, leb, behind, behind_lebs, text}
use Rattle.source_lines.specs.Unit.{Fields}
use Rattle.source_lines.specs.declared.files.TheConstants.{MOST_PATH}
use Rattle.source_lines.specs.declared.files.Form.{Form}
use Rattle.source_lines.specs.declared.files.Form.TheVariants.{String, LineString, Number, Block, Bytes}
use Rattle.source_lines.specs.declared.files.Table.{Table}

-- ---- version 4: strings of directories up to an empty one, and then entries of files, from number 1 on: a string and three numbers.
-- An empty string ends them

abbrev pub behind_directories : ℕ → List ℕ → Option (List ℕ)
behind_directories zero bytes = None
behind_directories (suc n) bytes = text bytes >>= λ (name, rest). if length name == 0 then Some rest else behind_directories n rest

abbrev pub path_four : ℕ → List ℕ → Option (List ℕ)
path_four zero bytes = None
path_four (suc n) bytes = text bytes >>= λ (name, rest).
    if length name == 0 then None else
    if n == 0 then Some name else behind_lebs 3 rest >>= λ after. path_four n after

-- ---- version 5: a table says what the fields of an entry are, each by two numbers, its content and its form

-- DW_FORM_string, line_strp, udata and block, and those that have so many bytes: DW_FORM_data1, data2, data4, data8, data16 and strp
abbrev pub form_of : ℕ → Option Form
form_of code =
    if code == 0x08 then Some String else
    if code == 0x1f then Some LineString else
    if code == 0x0f then Some Number else
    if code == 0x09 then Some Block else
    if code == 0x0b then Some (Bytes 1) else
    if code == 0x05 then Some (Bytes 2) else
    if code == 0x06 then Some (Bytes 4) else
    if code == 0x07 then Some (Bytes 8) else
    if code == 0x1e then Some (Bytes 16) else
    if code == 0x0e then Some (Bytes 4) else None

-- behind a field
abbrev pub behind_field : Form → List ℕ → Option (List ℕ)
behind_field String bytes = text bytes >>= λ (_, rest). Some rest
behind_field LineString bytes = behind 4 bytes
behind_field Number bytes = leb false bytes >>= λ (_, rest). Some rest
behind_field Block bytes = leb false bytes >>= λ (size, rest). behind size rest
behind_field (Bytes size) bytes = behind size bytes

-- a string of fewer than MOST_PATH bytes
abbrev pub text_at : ℕ → List ℕ → Option (List ℕ)
text_at place strings = behind place strings >>= λ at. text (take MOST_PATH at) >>= λ (name, _). Some name

-- DW_FORM_string has the string itself, DW_FORM_line_strp its place in .debug_line_str
abbrev pub string_field : List ℕ → Form → List ℕ → Option (List ℕ)
string_field strings String bytes = text bytes >>= λ (name, _). Some name
string_field strings LineString bytes = if nat_lt (length bytes) 4 then None else text_at (word_at 0 bytes) strings
string_field strings Number bytes = None
string_field strings Block bytes = None
string_field strings (Bytes size) bytes = None

-- what a field has, and its form
abbrev pub field_in : List ℕ → Option (ℕ × Form × List ℕ)
field_in formats =
    leb false formats >>= λ (content, codes). leb false codes >>= λ (code, rest). form_of code >>= λ form. Some (content, form, rest)

-- behind what says so of so many fields
abbrev pub behind_formats : ℕ → List ℕ → Option (List ℕ)
behind_formats zero formats = Some formats
behind_formats (suc n) formats = field_in formats >>= λ (_, _, next). behind_formats n next

-- behind an entry of so many fields
abbrev pub behind_entry : ℕ → List ℕ → List ℕ → Option (List ℕ)
behind_entry zero formats bytes = Some bytes
behind_entry (suc n) formats bytes =
    field_in formats >>= λ (_, form, next). behind_field form bytes >>= λ rest. behind_entry n next rest

-- behind so many entries
abbrev pub behind_entries : ℕ → ℕ → List ℕ → List ℕ → Option (List ℕ)
behind_entries zero width formats bytes = Some bytes
behind_entries (suc n) width formats bytes = behind_entry width formats bytes >>= λ rest. behind_entries n width formats rest

-- the entry's first field of DW_LNCT_path (1)
abbrev pub path_in : List ℕ → ℕ → List ℕ → List ℕ → Option (List ℕ)
path_in strings zero formats bytes = None
path_in strings (suc n) formats bytes =
    field_in formats >>= λ (content, form, next).
    if content == 1 then string_field strings form bytes else
    behind_field form bytes >>= λ rest. path_in strings n next rest

-- a table: how many fields an entry has, in a byte, what they are, and how many entries there are
pub record Entries : Type 0 where
  pub width : ℕ
  pub formats : List ℕ
  pub count : ℕ
  pub entries : List ℕ

abbrev pub shown : Table → Entries
shown t = record { width = t.width; formats = t.formats.now; count = t.count; entries = t.entries.now }

abbrev pub table_by : ℕ → List ℕ → Option Entries
table_by width formats =
    behind_formats width formats >>= λ rest. leb false rest >>= λ (count, entries).
    Some (record { width = width; formats = formats; count = count; entries = entries })

abbrev pub table_in : List ℕ → Option Entries
table_in [] = None
table_in (width ∷ formats) = table_by width formats

abbrev pub path_of : List ℕ → ℕ → Entries → Option (List ℕ)
path_of strings file t =
    if nat_le t.count file then None else
    behind_entries file t.width t.formats t.entries >>= λ entry. path_in strings t.width t.formats entry

-- the directories' table, and then the files', numbered from 0
abbrev pub path_five : List ℕ → ℕ → List ℕ → Option (List ℕ)
path_five strings file tables =
    table_in tables >>= λ directories.
    behind_entries directories.count directories.width directories.formats directories.entries >>= λ rest.
    table_in rest >>= λ files. path_of strings file files

-- ---- both

abbrev pub path_said : List ℕ → ℕ → Fields → Option (List ℕ)
path_said strings file p =
    if p.is_five then path_five strings file p.tables else
    behind_directories (length p.tables) p.tables >>= λ entries. path_four file entries

abbrev pub behind_slashes : List ℕ → List ℕ → List ℕ
behind_slashes name [] = name
behind_slashes name (byte ∷ rest) = if byte == 47 then behind_slashes rest rest else behind_slashes name rest

-- what stands behind the last slash
abbrev pub base_name : List ℕ → List ℕ
base_name path = behind_slashes path path
