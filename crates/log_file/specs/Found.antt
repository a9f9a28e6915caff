-- What is found of a base.
use Rattle.std.specs.Prelude.{List, ℕ, Option, Some, None, Vec}
use Rattle.std.specs.declared.alloc.Global.{Global}
use Rattle.access_slots.specs.declared.slot.Record.{Record}
use Rattle.log_file.specs.Bytes.{Rows}

abbrev pub base_in : Option (Vec (Record × List ℕ) Global) → Option Rows
base_in None = None
base_in (Some rows) = Some rows.items
