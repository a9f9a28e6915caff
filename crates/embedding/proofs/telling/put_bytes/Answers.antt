use Rattle.std.proofs.Common.{◌≡◌, ℕ, ◌≤◌, List, ◌++◌, length, take, arith, ap, ◌∙◌}
use Rattle.std.proofs.lemmas.List.{take-append-le, take_all, length-take-le}
use Rattle.embedding.proofs.telling.put_bytes.Goals as goal

-- the first bytes of what was laid over others are those that were laid
laid_over : (n : ℕ) (xs ys bytes : List ℕ) → n ≤ length bytes → xs ≡ take n bytes → take n (xs ++ ys) ≡ take n bytes
laid_over n xs ys bytes few is =
    let whole : length xs ≡ n = ap length is ∙ length-take-le n bytes few in
    take-append-le n xs ys (omega (arith, whole)) ∙ (take_all n xs (omega (arith, whole)) ∙ is)

pub returns-clause-bytes : goal.returns-clause-bytes
returns-clause-bytes c = laid_over c.min-count.result c.copy_from_slice.new.self _ c.args.bytes.now (omega (arith, c.min-count.ensures)) c.copy_from_slice.ensures.after
