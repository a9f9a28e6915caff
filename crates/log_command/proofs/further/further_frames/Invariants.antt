use Rattle.std.proofs.Common.{length}
use Rattle.log_command.proofs.FurtherLemmas.{IsSoFar}
use Rattle.log_command.proofs.further.further_frames.Given as goal

abbrev pub invariant-frames : goal.invariant-frames
invariant-frames l = IsSoFar l.header l.number l.bytes l.file.items l.next l.count l.rest

abbrev pub decreases-frames : goal.decreases-frames
decreases-frames l = length l.rest
