use Rattle.std.proofs.Common.{◌≡◌, ℕ, ◌+◌, ◌-◌, ◌*◌, ◌/◌, ◌%◌, length, take, drop, ap₂, ◌∙◌, arith, rules}
use Rattle.frame_file.specs.Frame.{hashed}
use Rattle.frame_file.specs.Sums.{block_at}
use Rattle.frame_file.proofs.Blocks.{entry_on}
use Rattle.frame_file.proofs.sums.Sums.fill.Goals as goal

pub entries-preserved : goal.entries-preserved
entries-preserved c =
    let bytes = c.args.bytes.now in
    let n = length c.entries.self.table.items in
    let size : n / 256 * 4096 + 4096 - n / 256 * 4096 ≡ 4096 = omega arith in
    let at : n / 256 * 4096 ≡ 4096 * (n / 256) = omega arith in
    let cut : c.hashed-lowest.result ≡ hashed (n % 256) (take (n / 256 * 4096 + 4096 - n / 256 * 4096) (drop (n / 256 * 4096) bytes)) = search rules in
    let lowest : c.hashed-lowest.result ≡ hashed (n % 256) (block_at (n / 256) bytes)
    = cut ∙ ap₂ (λ (a b : ℕ). hashed (n % 256) (take a (drop b bytes))) size at in
    record {
      each = entry_on bytes c.entries.self.table.items c.push.new.self.items c.hashed-lowest.result (search rules) c.entries.invariant.each lowest;
      factor = c.entries.invariant.factor;
    }
