use Rattle.std.proofs.Common.{◌≡◌, drop}
use Rattle.std.specs.List.{list_all}
use Rattle.semantics.specs.Reach.{is_in_reach, buffer_extents}
use Rattle.interpreter.proofs.layout.all_in_reach.Given as goal

abbrev pub invariant-loop-base : goal.invariant-loop-base
invariant-loop-base l = list_all is_in_reach (buffer_extents (drop l.base-index l.buffers)) ≡ list_all is_in_reach (buffer_extents l.buffers)
