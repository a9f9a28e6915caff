use Rattle.std.proofs.Common.{◌≡◌, ◌≤◌, ◌*◌, ℕ, List, length}
use Rattle.frame_file.specs.Frame.{hashed}
use Rattle.frame_file.specs.Sums.{part, AreBytes, AreSums}
use Rattle.frame_file.proofs.sums.Sums.over_blocks.Given as goal

abbrev pub invariant-each : goal.invariant-each
invariant-each l = (bytes : List ℕ) → AreSums bytes l.self → AreBytes bytes → 4096 * l.last ≤ length bytes
    → hashed l.hash (part (4096 * l.block) (4096 * l.last) bytes) ≡ hashed l.initial.hash (part (4096 * l.first) (4096 * l.last) bytes)
