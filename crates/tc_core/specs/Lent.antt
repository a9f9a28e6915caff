-- What the state tells, and changes nothing by.
use Rattle.std.specs.Prelude.{ℕ, false, Option, Some, None, Result, Ok, Err}
use Rattle.access_slots.specs.declared.op.Wire.{Wire}
use Rattle.history.specs.Flight.{low_water}
use Rattle.transactions.specs.declared.Redoing.{Redoing}
use Rattle.transactions.specs.InFlight.{site_of}
use Rattle.tc_core.specs.Core.{Core, Asking}
use Rattle.tc_core.specs.declared.state.Down.{Down}

abbrev pub wire_for : Core → Asking → ℕ → Wire
wire_for c r incarnation = record { number = r.number; low_water = low_water c.events; incarnation = incarnation; redo = false; op = r.op }

abbrev pub wire_by : Core → Asking → ℕ → Option Redoing → Result Wire Down
wire_by c r incarnation None = Ok (wire_for c r incarnation)
wire_by c r incarnation (Some redo) = Err (record {})

-- what is sent for a request now: its number and operation, with the low-water mark of now, to the known incarnation of its data
-- component; nothing while that is down
abbrev pub wire_of : Core → Asking → Result Wire Down
wire_of c r = wire_by c r (site_of c.sites r.op).incarnation (site_of c.sites r.op).redo
