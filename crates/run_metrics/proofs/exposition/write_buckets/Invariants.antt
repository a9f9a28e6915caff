use Rattle.std.proofs.Common.{◌≡◌, ◌++◌, take}
use Rattle.std.specs.Prelude.{string_bytes}
use Rattle.run_metrics.specs.Exposition.{bucket_lines}
use Rattle.run_metrics.proofs.exposition.write_buckets.Given as goal

abbrev pub invariant-loop-place : goal.invariant-loop-place
invariant-loop-place l = string_bytes l.text ≡ string_bytes l.fn.text ++ bucket_lines (take l.place l.buckets)
