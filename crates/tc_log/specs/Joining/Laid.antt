-- The cells that the code lays out.
use Rattle.std.specs.Prelude.{ℕ, Bool, true, nat_le, if◌then◌else◌, List, length, Option, Some, None}
use Rattle.std.specs.Option.{option_map}
use Rattle.access_slots.specs.declared.slot.Record.{Record}
use Rattle.tc_log.specs.Printed as printed
use Rattle.tc_log.specs.Printed.{zeros, args_bytes, plain, of_record, with_value}
use Rattle.tc_log.specs.declared.print.Body.{Body}
use Rattle.tc_log.specs.declared.print.Body.TheVariants.{Zeros, Value, Args}
use Rattle.tc_log.specs.declared.print.Cells.{Cells}

abbrev pub body_bytes : Body → List ℕ
body_bytes Zeros = zeros 64
body_bytes (Value v) = v.now
body_bytes (Args args) = args_bytes args.now

abbrev pub laid : Cells → printed.Cells
laid c = record {
  kind = c.kind;
  sub = c.sub;
  dc = c.dc;
  table = c.table;
  txn = c.txn;
  word = c.word;
  key = c.key;
  body = body_bytes c.body;
}

abbrev pub laid_if : Option Cells → Option printed.Cells
laid_if o = option_map laid o

abbrev pub laid_parts : ℕ → ℕ → ℕ → ℕ → Record → List ℕ → printed.Cells
laid_parts kind sub txn word r body = of_record r (with_value kind sub txn word body)

abbrev pub admit_cells : ℕ → ℕ → List ℕ → Option printed.Cells
admit_cells txn proc args = if nat_le (length args) 8 then Some (with_value 1 (length args) txn proc (args_bytes args)) else None

-- at most eight arguments
abbrev pub is_printable : Body → Bool
is_printable Zeros = true
is_printable (Value v) = true
is_printable (Args args) = nat_le (length args.now) 8
