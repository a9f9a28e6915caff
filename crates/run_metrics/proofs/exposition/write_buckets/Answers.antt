use Rattle.std.proofs.Common.{◌∙◌, ◌++◌, ◌<◌, ℕ, List, length, ap, arith}
use Rattle.std.specs.Prelude.{string_bytes}
use Rattle.run_metrics.proofs.BucketLemmas.{one_more}
use Rattle.run_metrics.proofs.exposition.write_buckets.Goals as goal

pub loop-place-preserved : goal.loop-place-preserved
loop-place-preserved c =
    let lt : c.loop-place.place < length c.args.buckets.now = omega arith in
    one_more (string_bytes c.args.text.now) (string_bytes c.loop-place.text) (string_bytes c.push_str.new.self) c.args.buckets.now
    c.loop-place.place _ lt c.loop-place.invariant
    (c.in_ok-push_str.ensures.bytes ∙ ap (λ (text : List ℕ). string_bytes c.loop-place.text ++ text) (c.as_str.ensures.value ∙ c.in_ok-line.ensures))
