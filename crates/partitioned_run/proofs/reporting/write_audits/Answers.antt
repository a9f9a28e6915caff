use Rattle.std.proofs.Common.{arith, ◌<◌, length}
use Rattle.std.specs.Prelude.{string_bytes}
use Rattle.partitioned_run.proofs.ReportingLemmas.{audits_more}
use Rattle.partitioned_run.proofs.reporting.write_audits.Goals as goal

pub loop-number-preserved : goal.loop-number-preserved
loop-number-preserved c =
    let l = c.loop-number in
    let lt : l.number < length c.args.grounds.now = omega arith in
    audits_more c.args.audit c.args.grounds.now l.number c.index-grounds-number.result (string_bytes c.args.lines.now) (string_bytes l.lines)
    (string_bytes c.write_audit_of.new.lines) l.sound c.in_ok-found.found c.are_both-sound.result lt l.invariant c.index-grounds-number.is
    c.in_ok-found.ensures c.are_both-sound.ensures
