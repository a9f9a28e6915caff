use Rattle.std.proofs.Common.{◌≡◌, ◌≤◌, vec_capacity}
use Rattle.history.specs.Calls.{admitted}
use Rattle.coming_back.specs.Joining.Moving.{CameOfAll}
use Rattle.coming_back.proofs.resuming.resume_all.Given as goal

abbrev pub invariant-loop-done : goal.invariant-loop-done
invariant-loop-done l = record {
  came : CameOfAll l.fn.state l.fn.dcs l.state l.dcs l.done l.resumed.items;
  within : l.done ≤ admitted l.fn.state.events;
  capacity : vec_capacity l.resumed ≡ vec_capacity l.fn.resumed;
}
