use Rattle.std.proofs.Common.{◌∙◌, ◌++◌, ◌<◌, ℕ, List, length, ap, arith}
use Rattle.std.specs.Prelude.{string_bytes}
use Rattle.partitioned_run.proofs.ReportingLemmas.{full_more}
use Rattle.partitioned_run.proofs.reporting.full_kept.Goals as goal

pub loop-number-preserved : goal.loop-number-preserved
loop-number-preserved c =
    let l = c.loop-number in
    let lt : l.number < length c.args.empty.now = omega arith in
    full_more c.args.partitions.now c.args.grounds.now c.args.empty.now l.number c.index-empty-number.result c.kept_dc-kept.result.now
    (string_bytes l.text) (string_bytes c.push_str.new.self) lt l.invariant c.index-empty-number.is c.kept_dc-kept.ensures
    (c.in_ok-push_str.ensures.bytes
    ∙ ap (λ (text : List ℕ). string_bytes l.text ++ text) (c.as_str.ensures.value ∙ c.in_ok-line.ensures))
