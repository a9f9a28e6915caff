use Rattle.std.proofs.Common.{sym, ◌∙◌}
use Rattle.tc_log.proofs.Again.{not_printed, nothing_printed}
use Rattle.tc_log.proofs.read.read_event.Goals as goal

pub returns-in_default-clause-none : goal.returns-in_default-clause-none
returns-in_default-clause-none c = nothing_printed c.args.bytes.now (sym c.in_ok-event.ensures.value ∙ c.in_default.is)

pub returns-else-branch-clause-none : goal.returns-else-branch-clause-none
returns-else-branch-clause-none c = not_printed c.in-Some.event c.args.bytes.now (sym c.in_ok-event.ensures.value ∙ c.in-Some.is) (λ e. let was = c.in_ok-prints.ensures.1 e in cc)
