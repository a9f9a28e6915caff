-- One bucket more.
use Rattle.std.proofs.Common.{◌≡◌, ℕ, ◌+◌, ◌<◌, List, [], ◌∷◌, ◌++◌, length, take, get_or, sym, ap, ◌∙◌, append_assoc}
use Rattle.std.proofs.lemmas.List.{append-nil, take_more}
use Rattle.run_metrics.specs.declared.exposition.Bucket.{Bucket}
use Rattle.run_metrics.specs.Exposition.{bucket_line, bucket_lines}

lines_push : (buckets : List Bucket) (x : Bucket) → bucket_lines (buckets ++ x ∷ []) ≡ bucket_lines buckets ++ bucket_line x
lines_push [] x = append-nil (bucket_line x)
lines_push (y ∷ ys) x =
    ap (λ (ls : List ℕ). bucket_line y ++ ls) (lines_push ys x) ∙ sym (append_assoc (bucket_line y) (bucket_lines ys) (bucket_line x))

-- behind the lines of so many comes that of the next
pub one_more : (old lines new : List ℕ) (buckets : List Bucket) (k : ℕ) (d : Bucket) → k < length buckets
    → lines ≡ old ++ bucket_lines (take k buckets) → new ≡ lines ++ bucket_line (get_or buckets k d)
    → new ≡ old ++ bucket_lines (take (k + 1) buckets)
one_more old lines new buckets k d lt so_far more =
    let x = get_or buckets k d in
    more ∙ ap (λ (ls : List ℕ). ls ++ bucket_line x) so_far
    ∙ append_assoc old (bucket_lines (take k buckets)) (bucket_line x)
    ∙ ap (λ (ls : List ℕ). old ++ ls) (sym (ap bucket_lines (take_more buckets k d lt) ∙ lines_push (take k buckets) x))
