use Rattle.std.proofs.Common.{◌≡◌, ℕ, ◌<◌, ◌≤◌, length}
use Rattle.register_kinds.specs.Kinds.{join_of, kind_at}
use Rattle.register_kinds.proofs.kinds.Kinds.join.Given as goal

abbrev pub invariant-loop-r : goal.invariant-loop-r
invariant-loop-r l = record {
  long : length l.self.registers ≡ 11;
  done : (k : ℕ) → k < l.r → kind_at l.self k ≡ join_of (kind_at l.initial.self k) (kind_at l.other k);
  rest : (k : ℕ) → l.r ≤ k → kind_at l.self k ≡ kind_at l.initial.self k;
}
