use Rattle.std.proofs.Common.{◌≤◌, ◌-◌, length}
use Rattle.request_numbers.specs.Places.{first_open}
use Rattle.request_numbers.proofs.numbers.first_open.Given as goal

abbrev pub invariant-loop-first : goal.invariant-loop-first
invariant-loop-first l = l.first ≤ first_open l.places

abbrev pub decreases-loop-first : goal.decreases-loop-first
decreases-loop-first l = length l.places - l.first
