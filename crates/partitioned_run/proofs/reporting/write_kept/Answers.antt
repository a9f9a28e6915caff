use Rattle.std.proofs.Common.{arith, ◌<◌, length}
use Rattle.std.specs.Prelude.{string_bytes}
use Rattle.partitioned_run.proofs.ReportingLemmas.{kept_more}
use Rattle.partitioned_run.proofs.reporting.write_kept.Goals as goal

pub loop-number-preserved : goal.loop-number-preserved
loop-number-preserved c =
    let l = c.loop-number in
    let lt : l.number < length c.args.empty.now = omega arith in
    kept_more c.args.partitions.now c.args.grounds.now c.args.empty.now l.number c.index-empty-number.result c.kept_dc-kept.result.now c.rows.result.now
    (string_bytes c.args.lines.now) (string_bytes l.lines) (string_bytes c.write_rows.new.lines) lt l.invariant
    c.index-empty-number.is c.kept_dc-kept.ensures
    c.rows.ensures.rows c.in_ok-write_rows.ensures
