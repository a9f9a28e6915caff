use Rattle.std.proofs.Common.{◌+◌, ◌≤◌, length}
use Rattle.scripts.proofs.cause.bad_number.Given as goal

abbrev pub invariant-words : goal.invariant-words
invariant-words l = l.place + length l.rest ≤ length l.text

abbrev pub decreases-words : goal.decreases-words
decreases-words l = length l.rest
