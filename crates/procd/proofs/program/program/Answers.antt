use Rattle.command_line.specs.Task.{wish_of}
use Rattle.procd.proofs.Faults.{never_wrong}
use Rattle.procd.proofs.program.program.Goals as goal

pub returns-in-Ok-clause-runs : goal.returns-in-Ok-clause-runs
returns-in-Ok-clause-runs g c = λ file wish says.
    let w = c.in-Ok.ensures.wanted file wish says in
    rw (← w.0, ← w.1) c.run_wanted-status.ensures

pub returns-in-Ok-clause-wrong : goal.returns-in-Ok-clause-wrong
returns-in-Ok-clause-wrong g c = λ is. absurd (never_wrong c.in-Ok.wanted.file.now (wish_of c.in-Ok.wanted.task) _ _ _ _ c.run_wanted-status.ensures is)

pub returns-in-Ok-clause-misuse : goal.returns-in-Ok-clause-misuse
returns-in-Ok-clause-misuse g c = λ wrong. absurd (c.in-Ok.ensures.wrong wrong)

pub returns-in-Err-clause-runs : goal.returns-in-Err-clause-runs
returns-in-Err-clause-runs g c = λ file wish says. c.refuse_words-status.ensures.runs file wish _ (c.in-Err.ensures.wanted file wish says)

pub returns-in-Err-clause-misuse : goal.returns-in-Err-clause-misuse
returns-in-Err-clause-misuse g c = λ wrong. c.refuse_words-status.ensures.misuse (c.in-Err.ensures.wrong wrong)
