use Rattle.std.proofs.Common.{◌≡◌, ℕ, ◌+◌, ◌*◌, ◌/◌, ap, ◌∙◌, arith, rules}
use Rattle.frame_file.specs.Frame.{hashed}
use Rattle.frame_file.specs.Sums.{part}
use Rattle.frame_file.proofs.Blocks.{over_all}
use Rattle.frame_file.proofs.sums.Sums.over.Goals as goal

pub returns-clause-sum : goal.returns-clause-sum
returns-clause-sum c =
    let bytes = c.args.bytes.now in
    let first = c.args.start / 4096 + 1 in
    let last = c.args.end / 4096 in
    let a : first * 4096 ≡ 4096 * first = omega arith in
    let b : last * 4096 ≡ 4096 * last = omega arith in
    let one : c.hashed-begun.result ≡ hashed c.args.hash (part c.args.start (first * 4096) bytes) = search rules in
    let two = c.over_blocks-behind.ensures bytes c.fill.ensures.of (λ i. omega (arith, c.type_inv.bytes i)) (omega (arith, c.requires.inside)) in
    let three : c.hashed-2.result ≡ hashed c.over_blocks-behind.result (part (last * 4096) c.args.end bytes) = search rules in
    over_all bytes c.args.start c.args.end first last c.args.hash c.hashed-begun.result c.over_blocks-behind.result c.hashed-2.result
    (omega arith) (omega (arith, c.if-last-first.false)) (omega arith)
    (one ∙ ap (λ (k : ℕ). hashed c.args.hash (part c.args.start k bytes)) a) two
    (three ∙ ap (λ (k : ℕ). hashed c.over_blocks-behind.result (part k c.args.end bytes)) b)
