-- What `ask` or `undo_next` answered, as a world tells it on.
use Rattle.std.specs.Prelude.{ℕ, List, [], ◌∷◌, Result, Ok, Err}
use Rattle.access_slots.specs.declared.op.Wire.{Wire}
use Rattle.tc_core.specs.Core.{Core, Asking}
use Rattle.tc_core.specs.Lent.{wire_of}
use Rattle.tc_core.specs.declared.state.Down.{Down}
use Rattle.tc_core.specs.declared.state.Asked.{Asked}
use Rattle.tc_core.specs.declared.state.Asked.TheVariants as reply
use Rattle.tc_world.specs.declared.step.Outcome.{Outcome}
use Rattle.tc_world.specs.declared.step.Outcome.TheVariants as outcome
use Rattle.tc_world.specs.declared.step.Illegal.{Illegal}
use Rattle.tc_world.specs.declared.step.Illegal.TheVariants as illegal

-- the request that is made, if one is
abbrev pub requests_of : Asked → List Asking
requests_of (reply.Request r) = r ∷ []
requests_of reply.Undoing = []
requests_of reply.Over = []
requests_of (reply.Stuck n) = []
requests_of (reply.Waits n) = []
requests_of reply.Running = []
requests_of reply.Unknown = []

abbrev pub wires_by : Result Wire Down → List Wire
wires_by (Ok x) = x ∷ []
wires_by (Err down) = []

-- its wire, unless its data component is down
abbrev pub wires_of : Core → Asked → List Wire
wires_of c (reply.Request r) = wires_by (wire_of c r)
wires_of c reply.Undoing = []
wires_of c reply.Over = []
wires_of c (reply.Stuck n) = []
wires_of c (reply.Waits n) = []
wires_of c reply.Running = []
wires_of c reply.Unknown = []

abbrev pub sent_or_held : ℕ → Asking → Result Wire Down → Outcome
sent_or_held sent r (Ok x) = outcome.Sent sent x
sent_or_held sent r (Err down) = outcome.Held r.number r.op

-- what the step of this transaction is answered, where so many wires were sent before
abbrev pub told_as : ℕ → ℕ → Core → Asked → Result Outcome Illegal
told_as t sent c (reply.Request r) = Ok (sent_or_held sent r (wire_of c r))
told_as t sent c reply.Undoing = Ok (outcome.Undoing t)
told_as t sent c reply.Over = Ok (outcome.Over t)
told_as t sent c (reply.Stuck n) = Ok (outcome.Stuck t n)
told_as t sent c (reply.Waits n) = Err (illegal.Waits n)
told_as t sent c reply.Running = Err illegal.Running
told_as t sent c reply.Unknown = Err illegal.NoTxn
