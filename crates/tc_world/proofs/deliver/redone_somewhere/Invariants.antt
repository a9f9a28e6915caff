use Rattle.std.proofs.Common.{◌≡◌, ℕ, ◌<◌}
use Rattle.tc_core.specs.Redo.{IsRedone}
use Rattle.tc_world.proofs.deliver.redone_somewhere.Given as goal

abbrev pub invariant-loop-dc : goal.invariant-loop-dc
invariant-loop-dc l = (l.state ≡ l.fn.state) × ((d : ℕ) → d < l.dc → IsRedone l.fn.state d l.reply → ⊥)
