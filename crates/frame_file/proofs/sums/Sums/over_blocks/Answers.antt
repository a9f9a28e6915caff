use Rattle.std.proofs.Common.{◌≡◌, ℕ, ◌*◌, sym, ◌∙◌, ap, arith, rules}
use Rattle.frame_file.specs.Frame.{hashed}
use Rattle.frame_file.specs.Sums.{part}
use Rattle.frame_file.proofs.Blocks.{block_on, nothing_over}
use Rattle.frame_file.proofs.sums.Sums.over_blocks.Goals as goal

pub each-preserved : goal.each-preserved
each-preserved c = λ bytes of are inside.
    block_on bytes c.args.self.now c.each.block c.args.last c.each.hash c.index-lowest.result.now c.over_block-hash.result of are inside
    (search rules) c.requires.filled (omega arith) (search rules) (search rules) ∙ c.each.invariant bytes of are inside

pub returns : goal.returns
returns c = λ bytes of are inside.
    let done : c.each.block ≡ c.args.last = omega (arith, c.requires.order) in
    sym (nothing_over (4096 * c.args.last) c.each.hash bytes)
    ∙ (ap (λ (k : ℕ). hashed c.each.hash (part (4096 * k) (4096 * c.args.last) bytes)) (sym done) ∙ c.each.invariant bytes of are inside)
