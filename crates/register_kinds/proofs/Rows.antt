-- Rows of kinds, register by register.
use Rattle.std.proofs.Common.{◌≡◌, ℕ, zero, suc, ◌<◌, List, [], ◌∷◌, length, refl, ap, ap₂, arith}
use Rattle.std.specs.List.{slice_index_or}
use Rattle.register_kinds.specs.declared.kind.Kind.{Kind}
use Rattle.register_kinds.specs.declared.kind.Kind.TheVariants.{Empty}
use Rattle.register_kinds.specs.declared.kinds.Kinds.{Kinds}
use Rattle.register_kinds.specs.Kinds.{kind_at, join_of, join_all, join_kinds}

join_at : (n : ℕ) (a b j : List Kind) → length a ≡ n → length b ≡ n → length j ≡ n
    → ((k : ℕ) → k < n → slice_index_or j k Empty ≡ join_of (slice_index_or a k Empty) (slice_index_or b k Empty))
    → j ≡ join_all a b
join_at zero [] b [] la lb lj h = refl
join_at zero [] b (j ∷ js) la lb lj h = absurd (omega arith)
join_at zero (a ∷ as') b j la lb lj h = absurd (omega arith)
join_at (suc n) [] b j la lb lj h = absurd (omega arith)
join_at (suc n) (a ∷ as') [] j la lb lj h = absurd (omega arith)
join_at (suc n) (a ∷ as') (b ∷ bs) [] la lb lj h = absurd (omega arith)
join_at (suc n) (a ∷ as') (b ∷ bs) (j ∷ js) la lb lj h =
    ap₂ (λ (k : Kind) (ks : List Kind). k ∷ ks) (h 0 (omega arith))
    (join_at n as' bs js (omega arith) (omega arith) (omega arith) (λ k lt. h (suc k) (omega arith)))

pub joined_is : (a b j : Kinds) → length a.registers ≡ 11 → length b.registers ≡ 11 → length j.registers ≡ 11
    → ((k : ℕ) → k < 11 → kind_at j k ≡ join_of (kind_at a k) (kind_at b k)) → j ≡ join_kinds a b
joined_is a b j la lb lj h = ap (λ (ks : List Kind). record { registers = ks }) (join_at 11 a.registers b.registers j.registers la lb lj h)
