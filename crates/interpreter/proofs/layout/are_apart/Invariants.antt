use Rattle.std.proofs.Common.{◌≡◌, drop}
use Rattle.semantics.specs.Reach.{are_apart, buffer_extents}
use Rattle.interpreter.proofs.layout.are_apart.Given as goal

abbrev pub invariant-loop-place : goal.invariant-loop-place
invariant-loop-place l = are_apart (buffer_extents (drop l.place l.buffers)) ≡ are_apart (buffer_extents l.buffers)
