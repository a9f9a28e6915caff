-- When a request can be sent.
use Rattle.std.specs.Prelude.{◌≡◌, None}
use Rattle.transactions.specs.InFlight.{site_of}
use Rattle.tc_core.specs.Core.{Core, Asking}

-- its data component isn't down
abbrev pub IsUpFor : Core → Asking → Type 0
IsUpFor c r = (site_of c.sites r.op).redo ≡ None
