use Rattle.run_log.proofs.recovering.go_back.Goals as goal

pub returns-in-Ok-Ready : goal.returns-in-Ok-Ready
returns-in-Ok-Ready c = λ opened. rw c.in-Ok-Ready.field-0-is at (c.in-Ok-Ready.ensures opened.file opened.is_log opened.kept)

pub returns-in-Ok-Refused : goal.returns-in-Ok-Refused
returns-in-Ok-Refused c = λ opened. rw c.in-Ok-Refused.field-0-is at (c.in-Ok-Refused.ensures opened.file opened.is_log opened.kept)
