use Rattle.std.specs.Prelude.{false, is_some, string_bytes}
use Rattle.scripts.specs.Reading.{contents_of}
use Rattle.partitioned_run.proofs.ReportingLemmas.{stopped_so}
use Rattle.partitioned_run.proofs.running.run_fit.Goals as goal

pub returns-in_ok-stopped-in-Some : goal.returns-in_ok-stopped-in-Some
returns-in_ok-stopped-in-Some g c =
    let m = c.args.manner in
    let r = c.in_ok-stopped-in-Some.field-0 in
    stopped_so (is_some c.args.log) (contents_of c.args.accepted.script) m.workers m.tries m.audit m.strict c.in-Some.stop r.status (string_bytes r.lines)
    (c.in-Some.ensures.unfit false) c.in_ok-stopped-in-Some.ensures.lines c.in_ok-stopped-in-Some.ensures.status
