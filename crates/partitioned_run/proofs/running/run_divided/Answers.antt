use Rattle.std.specs.Prelude.{is_some}
use Rattle.scripts.specs.Reading.{contents_of}
use Rattle.partitioned_run.proofs.ReportingLemmas.{refused_apart}
use Rattle.partitioned_run.proofs.running.run_divided.Goals as goal

pub returns-in-Refused : goal.returns-in-Refused
returns-in-Refused g c = λ range.
    let m = c.args.task.manner in
    refused_apart (is_some c.args.task.log) (contents_of c.args.task.script.now) c.args.task.division.now m.workers m.tries m.audit m.strict
    c.in-Refused.report c.requires.numbered (rw c.in-Refused.is at c.in_ok-starts.ensures)
