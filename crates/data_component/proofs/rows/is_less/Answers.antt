use Rattle.std.proofs.Common.{arith, ap₂, ◌∙◌, ◌≡◌, ◌+◌, ◌*◌, ◌^◌, ◌<◌, ℕ, ◌&&◌, ◌||◌}
use Rattle.std.specs.Prelude.{nat_lt, ◌==◌}
use Rattle.std.proofs.lemmas.Bool.Decides.{nat_tests}
use Rattle.data_component.proofs.rows.is_less.Goals as goal

-- one number's order is that of its three parts, where the later ones are less than what the earlier ones are multiplied by
by_parts : (d t k e u l : ℕ) → t < 2 ^ 16 → k < 2 ^ 64 → u < 2 ^ 16 → l < 2 ^ 64
    → nat_lt ((d * 2 ^ 16 + t) * 2 ^ 64 + k) ((e * 2 ^ 16 + u) * 2 ^ 64 + l)
    ≡ (nat_lt d e || ((d == e) && (nat_lt t u || ((t == u) && nat_lt k l))))
by_parts d t k e u l small_t small_k small_u small_l = grind (arith, nat_tests)

pub returns : goal.returns
returns c =
    let a = c.args.a.now in
    let b = c.args.b.now in
    ap₂ (λ (m n : ℕ). nat_lt m n) c.rank.ensures.value c.rank-2.ensures.value
    ∙ by_parts a.dc a.table a.key b.dc b.table b.key c.rank.ensures.table c.rank.ensures.key c.rank-2.ensures.table c.rank-2.ensures.key
