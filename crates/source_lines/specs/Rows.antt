-- The rows that a program appends, and the one that covers a place of a section.
use Rattle.std.specs.Prelude.{ℕ, zero, suc, ◌-◌, ◌/◌, Bool, false, ◌==◌, ◌&&◌, nat_lt, nat_le, if◌then◌else◌}
use Rattle.std.specs.Prelude.{List, [], ◌∷◌, ◌++◌, length, Option, Some, None}
use Rattle.object_file.specs.Gathering.{listed}
use Rattle.source_lines.specs.Machine.{Around, After, relocations_from, initial, step}
use Rattle.source_lines.specs.Unit.{Fields}
use Rattle.source_lines.specs.declared.machine.Registers.{Registers}
use Rattle.source_lines.specs.declared.machine.Row.{Row}
use Rattle.source_lines.specs.declared.rows.Place.{Place}

-- ---- all rows

-- relocations in front of an opcode's operands, which these bytes begin with, are passed
abbrev pub at_operands : List ℕ → Around → Around
at_operands bytes a = record a { relocations = relocations_from (length a.relocations / 16) (a.end - length bytes) a.relocations }

abbrev pub row_and : Option After → (Registers → List ℕ → List Row) → List Row
row_and None more = []
row_and (Some s) more = listed s.row ++ more s.registers s.rest

-- those that so many opcodes append, up to one that isn't understood
abbrev pub rows_within : ℕ → Fields → Around → Registers → List ℕ → List Row
rows_within zero p a r bytes = []
rows_within (suc n) p a r [] = []
rows_within (suc n) p a r (opcode ∷ bytes) =
    row_and (step p (at_operands bytes a) opcode bytes r) (rows_within n p (at_operands bytes a))

-- each opcode has a byte at least
abbrev pub rows_of : Fields → Around → List Row
rows_of p a = rows_within (length p.opcodes) p a initial p.opcodes

-- ---- the one that covers a place

abbrev pub is_section : ℕ → Option ℕ → Bool
is_section section None = false
is_section section (Some own) = own == section

-- a row covers the places of its section from its own address up to that of the next row
abbrev pub covers : Place → Registers → Registers → Bool
covers p row next =
    (is_section p.section row.section && is_section p.section next.section)
    && (nat_le row.address p.address && nat_lt p.address next.address)

abbrev pub covers_before : Place → Option Registers → Row → Bool
covers_before p None next = false
covers_before p (Some before) next = covers p before next.registers

-- the row that the next one of its sequence stands behind
abbrev pub going_on : Row → Option Registers
going_on row = if row.ends_sequence then None else Some row.registers

-- the first that covers it, where this row of their sequence stands before these
abbrev pub covering_behind : Place → Option Registers → List Row → Option Registers
covering_behind p before [] = None
covering_behind p before (row ∷ rows) = if covers_before p before row then before else covering_behind p (going_on row) rows

abbrev pub covering : Place → List Row → Option Registers
covering p rows = covering_behind p None rows
