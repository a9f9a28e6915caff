use Rattle.std.proofs.Common.{◌≡◌, ◌<◌, ℕ, length, get_or}
use Rattle.partitions.proofs.partitions.Partitions.new.Given as goal

abbrev pub invariant-loop-dc : goal.invariant-loop-dc
invariant-loop-dc l = (length l.numbers.items ≡ l.dc) × ((k : ℕ) → k < l.dc → get_or l.numbers.items k 0 ≡ k)
