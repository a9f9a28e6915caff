-- The state machine of line number programs (DWARF 5, section 6.2): its registers as far as a line needs them, and each opcode's step.
use Rattle.std.specs.Prelude.{ℕ, zero, suc, ◌+◌, ◌-◌, ◌*◌, ◌/◌, ◌%◌, Bool, true, false, ◌==◌, ◌||◌, not, nat_lt, nat_le, if◌then◌else◌}
use Rattle.std.specs.Prelude.{List, [], ◌∷◌, length, take, drop, slice_index, Option, Some, None}
use Rattle.object_file.specs.Elf.{half_at, word_at, long_at}
use Rattle.source_lines.specs.Numbers.{◌>>=◌, wrapped, leb, behind, behind_lebs}
use Rattle.source_lines.specs.Unit.{Fields}
use Rattle.source_lines.specs.declared.machine.Context.{Context}
use Rattle.source_lines.specs.declared.machine.Registers.{Registers}
use Rattle.source_lines.specs.declared.machine.Row.{Row}
use Rattle.source_lines.specs.declared.machine.Stepped.{Stepped}

-- ---- addresses, which a relocatable file leaves open (System V ABI: "Symbol Table", "Relocation")

-- the place in .debug_line where a program ends, its symbols, and the relocations from the opcode on
pub record Around : Type 0 where
  pub end : ℕ
  pub symbols : List ℕ
  pub relocations : List ℕ

abbrev pub around : Context → Around
around c = record { end = c.end; symbols = c.symbols.now; relocations = c.relocations.now }

-- entries of .rel.debug_line have 16 bytes; those in front of a place are passed
abbrev pub relocations_from : ℕ → ℕ → List ℕ → List ℕ
relocations_from zero place relocations = relocations
relocations_from (suc n) place relocations =
    if nat_lt (length relocations) 16 then relocations else
    if nat_lt (long_at 0 relocations) place then relocations_from n place (drop 16 relocations) else relocations

-- a symbol of this number: its section is st_shndx; its place there is st_value
abbrev pub symbol_at : ℕ → List ℕ → Option (List ℕ)
symbol_at number symbols =
    behind (number * 24) symbols >>= λ symbol. if nat_lt (length symbol) 24 then None else Some symbol

-- R_BPF_64_ABS64 (2), which is R_BPF_DATA_64 (12) of binutils before 2.41
abbrev pub is_absolute : ℕ → Bool
is_absolute kind = (kind == 2) || (kind == 12)

-- the section and the place in it that an operand at this place stands for: the symbol's value is added to what is there
abbrev pub target_of : ℕ → Around → List ℕ → Option (ℕ × ℕ)
target_of place a operand =
    if nat_lt (length a.relocations) 16 then None else
    if not (long_at 0 a.relocations == place) then None else
    if not (is_absolute (word_at 8 a.relocations)) then None else
    symbol_at (word_at 12 a.relocations) a.symbols >>= λ symbol. Some (half_at 6 symbol, wrapped (long_at 0 operand + long_at 8 symbol))

-- ---- steps

-- at the beginning of each sequence
abbrev pub initial : Registers
initial = record { section = None; address = 0; file = 1; line = 1 }

abbrev pub advanced : ℕ → ℕ → Registers → Registers
advanced instruction count r = record r { address = wrapped (r.address + wrapped (count * instruction)) }

abbrev pub moved : ℕ → Registers → Registers
moved lines r = record r { line = wrapped (r.line + lines) }

-- a byte with sign, as a number of 64 bits
abbrev pub signed_byte : ℕ → ℕ
signed_byte byte = if nat_le 128 byte then byte + 0xffff_ffff_ffff_ff00 else byte

-- a row may be appended, and the program goes on
pub record After : Type 0 where
  pub registers : Registers
  pub row : Option Row
  pub rest : List ℕ

abbrev pub after : Stepped → After
after s = record { registers = s.registers; row = s.row; rest = s.rest.now }

abbrev pub quiet : Registers → List ℕ → After
quiet r rest = record { registers = r; row = None; rest = rest }

abbrev pub appending : Registers → List ℕ → After
appending r rest = record { registers = r; row = Some (record { registers = r; ends_sequence = false }); rest = rest }

-- 6.2.5.1
abbrev pub special : Fields → ℕ → Registers → Registers
special p opcode r =
    moved (wrapped (signed_byte p.line_base + (opcode - p.opcode_base) % p.line_range))
    (advanced p.instruction ((opcode - p.opcode_base) / p.line_range) r)

abbrev pub addressed : Option (ℕ × ℕ) → Registers → Registers
addressed None r = record r { section = None; address = 0 }
addressed (Some (section, address)) r = record r { section = Some section; address = address }

-- 6.2.5.3: DW_LNE_end_sequence (1), DW_LNE_set_address (2); others are passed
abbrev pub extended_by : Around → ℕ → List ℕ → List ℕ → Registers → Option After
extended_by a code operand rest r =
    if code == 1 then Some (record { registers = initial; row = Some (record { registers = r; ends_sequence = true }); rest = rest }) else
    if not (code == 2) then Some (quiet r rest) else
    if not (length operand == 8) then None else
    Some (quiet (addressed (target_of (a.end - (length rest + 8)) a operand) r) rest)

abbrev pub extended_in : Around → List ℕ → List ℕ → Registers → Option After
extended_in a [] rest r = None
extended_in a (code ∷ operand) rest r = extended_by a code operand rest r

-- how many bytes it has, and these
abbrev pub extended : Around → List ℕ → Registers → Option After
extended a bytes r = leb false bytes >>= λ (size, behind_size).
    behind size behind_size >>= λ rest. extended_in a (take size behind_size) rest r

-- 6.2.5.2: DW_LNS_copy, advance_pc, advance_line, set_file, const_add_pc and fixed_advance_pc; of others the operands are passed
abbrev pub standard : Fields → ℕ → List ℕ → Registers → Option After
standard p opcode bytes r =
    if opcode == 1 then Some (appending r bytes) else
    if opcode == 2 then (leb false bytes >>= λ (count, rest). Some (quiet (advanced p.instruction count r) rest)) else
    if opcode == 3 then (leb true bytes >>= λ (lines, rest). Some (quiet (moved lines r) rest)) else
    if opcode == 4 then (leb false bytes >>= λ (file, rest).
    Some (quiet (record r { file = file }) rest)) else
    if opcode == 8 then Some (quiet (advanced p.instruction ((255 - p.opcode_base) / p.line_range) r) bytes) else
    if opcode == 9 then (behind 2 bytes >>= λ rest. Some (quiet (advanced 1 (half_at 0 bytes) r) rest)) else
    behind_lebs (slice_index p.lengths (opcode - 1)) bytes >>= λ rest. Some (quiet r rest)

abbrev pub step : Fields → Around → ℕ → List ℕ → Registers → Option After
step p a opcode bytes r =
    if nat_le p.opcode_base opcode then Some (appending (special p opcode r) bytes) else
    if opcode == 0 then extended a bytes r else standard p opcode bytes r
