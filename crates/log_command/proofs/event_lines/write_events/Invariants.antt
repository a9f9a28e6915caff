use Rattle.std.proofs.Common.{◌≡◌, ◌++◌, take}
use Rattle.std.specs.Prelude.{string_bytes}
use Rattle.log_command.specs.EventLines.{event_lines}
use Rattle.log_command.proofs.event_lines.write_events.Given as goal

abbrev pub invariant-events : goal.invariant-events
invariant-events l = string_bytes l.lines ≡ string_bytes l.initial.lines ++ event_lines l.first (take l.place l.events)
