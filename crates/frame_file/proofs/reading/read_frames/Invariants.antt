use Rattle.std.proofs.Common.{◌≡◌, ◌++◌, length}
use Rattle.frame_file.specs.Frame.{frames_from, ArePayloads}
use Rattle.frame_file.specs.Reading.{payloads_in}
use Rattle.frame_file.proofs.reading.read_frames.Given as goal

abbrev pub invariant-frames : goal.invariant-frames
invariant-frames l = record {
  so_far : l.bytes ≡ frames_from 0 (payloads_in l.payloads.items) ++ l.rest;
  fit : ArePayloads (payloads_in l.payloads.items);
}

abbrev pub decreases-frames : goal.decreases-frames
decreases-frames l = length l.rest
