use Rattle.std.specs.Prelude.{string_bytes}
use Rattle.partitioned_run.specs.Logged.{Itself}
use Rattle.partitioned_run.proofs.recovering.recover.Goals as goal

pub returns-in-Ok-Ready : goal.returns-in-Ok-Ready
returns-in-Ok-Ready g c = c.go_on.ensures (rw c.in-Ok-Ready.field-0-is at (c.in-Ok-Ready.ensures c.args.ground.dcs.items))

pub returns-in_ok-refused-in-Ok-Refused : goal.returns-in_ok-refused-in-Ok-Refused
returns-in_ok-refused-in-Ok-Refused g c =
    let refused = rw c.in-Ok-Refused.field-0-is at (c.in-Ok-Refused.ensures c.args.ground.dcs.items) in
    let made = rw c.as_str.ensures.value at c.in_ok-refused-in-Ok-Refused.ensures in
    (made.0, (string_bytes c.in-Ok-Refused.report.lines, Itself refused.0, made.1))
