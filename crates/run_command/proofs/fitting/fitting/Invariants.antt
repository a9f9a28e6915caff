use Rattle.std.proofs.Common.{◌≡◌, ◌≤◌, ◌*◌, take, true}
use Rattle.run_command.specs.Fitting.{operations, have_room}
use Rattle.run_command.proofs.fitting.fitting.Given as goal

abbrev pub invariant-calls : goal.invariant-calls
invariant-calls l = record {
  sum : l.operations ≡ operations l.procs.codes (take l.count l.calls);
  fit : have_room l.dcs l.operations ≡ true;
  few : l.operations ≤ 20_480 * l.count;
}
