use Rattle.std.proofs.Common.{rules, arith, ◌≡◌, ◌-◌, ◌*◌, ◌+◌, ◌<◌, ℕ, length, refl}
use Rattle.std.specs.Prelude.{slice_index_or}
use Rattle.std.specs.Int.{w64, to_le_bytes}
use Rattle.tc_log.proofs.Laying.{value_further}
use Rattle.tc_log.proofs.heads.value_at.Goals as goal

pub words-preserved : goal.words-preserved
words-preserved c =
    let inside : c.args.place + c.words.at < length c.args.words.now = search rules in
    let written : c.copy_from_slice.new.self ≡ to_le_bytes w64 (slice_index_or c.args.words.now (c.args.place + c.words.at) 0) = search rules in
    value_further c.args.words.now c.args.place c.words.at (8 * c.words.at + 8 - 8 * c.words.at) (slice_index_or c.args.words.now (c.args.place + c.words.at) 0) 0
    c.words.value c.copy_from_slice.new.self c.words.invariant refl written inside (search rules) (one_word c.words.at)
  where
    one_word : (n : ℕ) → 8 * n + 8 - 8 * n ≡ 8
    one_word n = omega arith
