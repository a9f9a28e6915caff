use Rattle.std.proofs.Common.{rules}
use Rattle.std.specs.Prelude.{string_bytes}
use Rattle.tc_log.specs.Entered.{seen}
use Rattle.log_command.proofs.EventLemmas.{lines_more}
use Rattle.log_command.proofs.event_lines.write_events.Goals as goal

pub events-preserved : goal.events-preserved
events-preserved c =
    lines_more c.args.first c.args.events.now c.events.place (seen c.entry.result) (string_bytes c.args.lines.now)
    (string_bytes c.events.lines) (string_bytes c.push_str.new.self)
    (string_bytes c.in_ok-line.line) c.entry.ensures.there c.events.invariant c.in_ok-line.ensures (search rules)
