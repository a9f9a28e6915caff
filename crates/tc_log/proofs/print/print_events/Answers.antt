use Rattle.std.proofs.Common.{rules, reverse, drop}
use Rattle.std.specs.List.{flat_map}
use Rattle.tc_log.specs.Printed.{printed}
use Rattle.tc_log.specs.Entered.{seen}
use Rattle.tc_log.proofs.Laying.{printed_next}
use Rattle.tc_log.proofs.print.print_events.Goals as goal

pub events-preserved : goal.events-preserved
events-preserved c = record {
  bytes = printed_next c.events.out.items c.write_event.new.out.items (flat_map printed (drop c.args.place (reverse c.args.log.now.events)))
      (reverse c.args.log.now.events) c.args.place c.events.number (seen c.entry.result) c.events.invariant.bytes c.entry.ensures.there c.in_ok-write_event.ensures.bytes;
  rows = search rules;
}
