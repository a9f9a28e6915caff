-- A step of the search for the row that covers a place.
use Rattle.std.specs.Prelude.{if◌then◌else◌, Option, Some, None}
use Rattle.source_lines.specs.Rows.{covers, going_on}
use Rattle.source_lines.specs.declared.machine.Registers.{Registers}
use Rattle.source_lines.specs.declared.machine.Row.{Row}
use Rattle.source_lines.specs.declared.rows.Looked.{Looked}
use Rattle.source_lines.specs.declared.rows.Looked.TheVariants.{Found, Behind}
use Rattle.source_lines.specs.declared.rows.Place.{Place}

-- what a row that may have been appended comes to, behind another one
abbrev pub looked : Place → Option Registers → Option Row → Looked
looked p before None = Behind before
looked p None (Some row) = Behind (going_on row)
looked p (Some before) (Some row) = if covers p before row.registers then Found before else Behind (going_on row)
