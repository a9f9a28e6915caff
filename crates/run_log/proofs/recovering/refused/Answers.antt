use Rattle.std.proofs.Common.{subst}
use Rattle.std.specs.Prelude.{string_bytes}
use Rattle.log_file.specs.declared.header.Header.{Header}
use Rattle.log_file.specs.Reading.{IsOpenFault}
use Rattle.run_log.specs.LogLines.{IsOpenRefusal}
use Rattle.run_log.specs.Recovering.{Unread}
use Rattle.run_log.proofs.recovering.refused.Goals as goal

pub returns-in-Some : goal.returns-in-Some
returns-in-Some c = λ start own is empties.
    let known = rw c.in-Some.is at c.in_ok-report.ensures in
    let file = c.args.bytes.now in
    let lines = string_bytes c.in-Some.report.lines in (
      Unread file c.args.fault.now (subst (λ (h : Header). IsOpenFault h file c.args.fault.now) own is)
          (subst (λ (h : Header). IsOpenRefusal h file c.args.fault.now lines) own known.0),
      known.1,
    )
