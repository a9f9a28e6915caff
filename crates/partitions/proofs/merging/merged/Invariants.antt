use Rattle.std.proofs.Common.{◌≡◌, ℕ, length, take, get_or, Some, slice_get, ◌<◌}
use Rattle.std.specs.Prelude.{count_by, ◌==◌}
use Rattle.std.specs.Global.{Vec}
use Rattle.partitions.specs.Picking.{picked}
use Rattle.partitions.proofs.merging.merged.Given as goal

abbrev pub invariant-loop-number : goal.invariant-loop-number
invariant-loop-number g l = record {
  as_many : length l.taken.items ≡ length l.parts;
  each : length l.all.items ≡ l.number-index;
  counted : (p : ℕ) → p < length l.parts → get_or l.taken.items p 0 ≡ count_by (λ (number : ℕ). number == p) (take l.number-index l.numbers);
  own : (p : ℕ) (part : Vec g.row.T.Denot) → slice_get l.parts p ≡ Some part
      → picked p (take l.number-index l.numbers) l.all.items ≡ take (get_or l.taken.items p 0) part.items;
}
