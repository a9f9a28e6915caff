-- A line number program and its header (DWARF 5, section 6.2.4; version 4 has the same but for what is named).
use Rattle.std.specs.Prelude.{ℕ, ◌-◌, Bool, true, false, ◌==◌, ◌||◌, not, nat_lt, if◌then◌else◌}
use Rattle.std.specs.Prelude.{List, length, take, drop, slice_index, Option, Some, None}
use Rattle.object_file.specs.Elf.{half_at, word_at}
use Rattle.source_lines.specs.Numbers.{◌>>=◌, behind}
use Rattle.source_lines.specs.declared.unit.Program.{Program}

pub record Fields : Type 0 where
  pub is_five : Bool
  pub instruction : ℕ
  pub line_base : ℕ
  pub line_range : ℕ
  pub opcode_base : ℕ
  pub lengths : List ℕ
  pub tables : List ℕ
  pub opcodes : List ℕ

abbrev pub shown : Program → Fields
shown p = record {
  is_five = p.is_five;
  instruction = p.instruction;
  line_base = p.line_base;
  line_range = p.line_range;
  opcode_base = p.opcode_base;
  lengths = p.lengths.now;
  tables = p.tables.now;
  opcodes = p.opcodes.now;
}

-- behind `version`, of version 5 also behind `address_size`, which is 8, and `segment_selector_size`, which is 0
abbrev pub behind_version : List ℕ → Option (Bool × List ℕ)
behind_version unit =
    if nat_lt (length unit) 4 then None else
    if half_at 0 unit == 4 then Some (false, drop 2 unit) else
    if not (half_at 0 unit == 5) then None else
    if not (half_at 2 unit == 8) then None else Some (true, drop 4 unit)

abbrev pub fields : Bool → List ℕ → List ℕ → List ℕ → Fields
fields is_five rest tables opcodes = record {
  is_five = is_five;
  instruction = slice_index rest 4;
  line_base = slice_index rest 7;
  line_range = slice_index rest 8;
  opcode_base = slice_index rest 9;
  lengths = take (slice_index rest 9 - 1) (drop 10 rest);
  tables = tables;
  opcodes = opcodes;
}

-- from `header_length` on: 4 bytes; then `minimum_instruction_length`, `maximum_operations_per_instruction`, which is 1, `default_is_stmt`,
-- `line_base`, `line_range` and `opcode_base`, which aren't 0; then the lengths of standard opcodes, and the tables of directories and
-- files. The program begins `header_length` bytes behind those 4
abbrev pub program_behind : Bool → List ℕ → Option Fields
program_behind is_five rest =
    if nat_lt (length rest) 10 then None else
    if not (slice_index rest 5 == 1) then None else
    if (slice_index rest 8 == 0) || (slice_index rest 9 == 0) then None else
    behind (slice_index rest 9 - 1) (drop 10 rest) >>= λ tables.
    behind (word_at 0 rest) (drop 4 rest) >>= λ opcodes. Some (fields is_five rest tables opcodes)

abbrev pub program_in : List ℕ → Option Fields
program_in unit = behind_version unit >>= λ (is_five, rest). program_behind is_five rest
