use Rattle.std.proofs.Common.{◌≡◌, ◌+◌, ◌≤◌, drop}
use Rattle.std.specs.Prelude.{count_by}
use Rattle.tc_world.specs.Joining.Written.{gives}
use Rattle.tc_world.proofs.written.count_in.Given as goal

abbrev pub invariant-events : goal.invariant-events
invariant-events l = record {
  counted : l.count + count_by gives (drop l.place l.events) ≡ count_by gives l.events;
  few : l.count ≤ l.place;
}
