use Rattle.std.proofs.Common.{◌≡◌, ◌+◌, ◌*◌, ◌++◌, drop, length, reverse}
use Rattle.std.specs.List.{flat_map}
use Rattle.tc_log.specs.Printed.{printed}
use Rattle.tc_log.proofs.print.print_events.Given as goal

abbrev pub invariant-events : goal.invariant-events
invariant-events l = record {
  bytes : l.out.items ++ flat_map printed (drop (l.place + l.number) (reverse l.log.events)) ≡ flat_map printed (drop l.place (reverse l.log.events));
  rows : length l.out.items ≡ 96 * l.number;
}
