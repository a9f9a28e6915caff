use Rattle.std.proofs.Common.{◌≡◌, ◌<◌, ◌≤◌, ℕ, length, get_or}
use Rattle.partitions.specs.Joining.Merging.{renamed}
use Rattle.partitions.proofs.partitions.Partitions.merge.Given as goal

abbrev pub invariant-loop-dc : goal.invariant-loop-dc
invariant-loop-dc l =
    (length l.numbers ≡ length l.initial.numbers)
    × ((k : ℕ) → k < l.dc → get_or l.numbers k 0 ≡ renamed l.one l.other (get_or l.initial.numbers k 0))
    × ((k : ℕ) → l.dc ≤ k → get_or l.numbers k 0 ≡ get_or l.initial.numbers k 0)
