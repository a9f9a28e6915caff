use Rattle.std.proofs.Common.{◌≤◌, length}
use Rattle.frame_file.specs.Reading.{payloads_in}
use Rattle.log_file.proofs.BaseLemmas.{SoFar}
use Rattle.log_file.proofs.base.read_base.Given as goal

abbrev pub invariant-parts : goal.invariant-parts
invariant-parts l = record {
  so_far : SoFar l.count (payloads_in l.payloads) (payloads_in l.rest) l.base.items;
  left : length l.rest ≤ length l.payloads;
}

abbrev pub decreases-parts : goal.decreases-parts
decreases-parts l = length l.rest
