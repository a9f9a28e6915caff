use Rattle.std.proofs.Common.{◌≡◌, drop}
use Rattle.frame_file.specs.Frame.{hashed}
use Rattle.frame_file.proofs.frame.hashed.Given as goal

abbrev pub invariant-loop-byte : goal.invariant-loop-byte
invariant-loop-byte l = hashed l.hash (drop l.byte-index l.bytes) ≡ hashed l.initial.hash l.bytes
