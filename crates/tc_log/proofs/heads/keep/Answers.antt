use Rattle.std.proofs.Common.{rules, arith, ◌≡◌, ◌-◌, ◌*◌, ◌+◌, ◌≤◌, ℕ, length}
use Rattle.tc_log.proofs.Laying.{keep_further, kept_count, kept_all}
use Rattle.tc_log.proofs.heads.keep.Goals as goal

pub push_reserved-requires : goal.push_reserved-requires
push_reserved-requires c =
    let counted : length c.words.words.items ≡ length c.args.words.now.items + c.words.place =
    kept_count c.args.words.now.items c.words.words.items c.args.value.now c.words.place c.words.invariant.kept in search rules

pub words-preserved : goal.words-preserved
words-preserved c = record {
  kept = keep_further c.args.words.now.items c.words.words.items c.push_reserved.new.self.items c.args.value.now c.long.result c.words.place
      (8 * c.words.place + 8 - 8 * c.words.place) c.words.invariant.kept c.push_reserved.ensures.items c.long.ensures (one_word c.words.place);
  capacity = search rules;
}
  where
    one_word : (n : ℕ) → 8 * n + 8 - 8 * n ≡ 8
    one_word n = omega arith

pub returns-clause-kept : goal.returns-clause-kept
returns-clause-kept c =
    kept_all c.args.words.now.items c.words.words.items c.args.value.now c.count_of-count.result c.words.place c.fits-value c.told-value c.words.invariant.kept
    (same c.words.place c.count_of-count.result c.words.auto.place-end c.words-test.false) c.count_of-count.ensures.few c.count_of-count.ensures.zeros
  where
    same : (n m : ℕ) → n ≤ m → m ≤ n → n ≡ m
    same n m a b = omega (arith, a, b)
