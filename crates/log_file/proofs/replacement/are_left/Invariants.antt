use Rattle.std.proofs.Common.{◌≡◌, length}
use Rattle.log_file.specs.Replacement.{are_left}
use Rattle.log_file.proofs.replacement.are_left.Given as goal

abbrev pub invariant-bytes : goal.invariant-bytes
invariant-bytes l = are_left l.written l.there ≡ are_left l.bytes l.rest

abbrev pub decreases-bytes : goal.decreases-bytes
decreases-bytes l = length l.rest
