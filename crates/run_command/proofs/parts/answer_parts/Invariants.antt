use Rattle.std.proofs.Common.{◌≡◌, ◌+◌, ◌≤◌, length}
use Rattle.std.specs.Prelude.{is_some}
use Rattle.worker_pool.specs.Faults.{InRange}
use Rattle.run_ground.specs.Kept.{KeepsLog}
use Rattle.run_command.specs.Joining.Parts.{AreSoFar}
use Rattle.run_command.proofs.parts.answer_parts.Given as goal

abbrev pub invariant-parts : goal.invariant-parts
invariant-parts g l = record {
  so_far : AreSoFar l.input.manner.results l.fn.ground l.input.checkpoints.over l.input.first.now l.input.calls.now l.rest.first.now l.rest.calls.now
      l.outcome;
  kept : KeepsLog l.fn.ground.journal l.fn.ground.state.events → KeepsLog l.outcome.ground.journal l.outcome.ground.state.events;
  same : is_some l.outcome.ground.journal ≡ is_some l.fn.ground.journal;
  range : InRange l.input.manner.workers l.input.manner.tries;
  few : length l.rest.calls.now ≤ length l.input.calls.now;
  manner : l.rest.manner ≡ l.input.manner;
  checkpoints : l.rest.checkpoints ≡ l.input.checkpoints;
}

abbrev pub decreases-parts : goal.decreases-parts
decreases-parts g l = length l.rest.first.now + length l.rest.calls.now
