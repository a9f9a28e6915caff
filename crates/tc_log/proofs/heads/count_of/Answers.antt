use Rattle.std.proofs.Common.{rules, arith, ◌≡◌, ◌-◌, ◌*◌, ◌+◌, ◌<◌, ◌≤◌, ℕ, refl, length}
use Rattle.tc_log.proofs.Laying.{none_left, one_word_fewer, zero_word}
use Rattle.tc_log.proofs.heads.count_of.Goals as goal

pub words-init : goal.words-init
words-init c = record { few = search rules; zeros = none_left c.args.value.now c.told-value }

pub words-preserved : goal.words-preserved
words-preserved c = record {
  few = search rules;
  zeros = one_word_fewer c.args.value.now _ c.words.count (c.words.count - 1) (8 * c.words.count - 8 * (c.words.count - 1)) c.words.invariant.few
      (one_less c.words.count c.words-test.true) c.words.invariant.zeros refl (one_word c.words.count c.words-test.true)
      (zero_word c.args.value.now (c.words.count - 1) (8 * c.words.count - 8 * (c.words.count - 1)) c.long.result c.fits-value
      (inside c.words.count (length c.args.value.now) c.words-test.true c.words.invariant.few c.told-value) (one_word c.words.count c.words-test.true)
      c.long.ensures (search rules));
}
  where
    one_less : (n : ℕ) → 0 < n → n ≡ (n - 1) + 1
    one_less n some = omega (arith, some)

    one_word : (n : ℕ) → 0 < n → 8 * n - 8 * (n - 1) ≡ 8
    one_word n some = omega (arith, some)

    inside : (n long : ℕ) → 0 < n → n ≤ 8 → long ≡ 64 → 8 * (n - 1) + 8 ≤ long
    inside n long some few is = omega (arith, some, few, is)
