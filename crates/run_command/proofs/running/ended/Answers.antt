use Rattle.std.proofs.Common.{◌∙◌}
use Rattle.std.proofs.lemmas.Result.{IfOk-weaker}
use Rattle.run_command.proofs.running.ended.Goals as goal

pub returns-clause-ok : goal.returns-clause-ok
returns-clause-ok c =
    IfOk-weaker c.with_journal.result _ _ (λ r h. (h.1 ∙ c.journal_of.ensures, rw h.0 at c.reported-report.ensures.lines)) c.with_journal.ensures.ok
