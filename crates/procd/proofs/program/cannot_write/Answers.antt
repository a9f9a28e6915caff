use Rattle.std.proofs.Common.{[], subst, ◌∙◌}
use Rattle.program_files.specs.Streams.{Begins}
use Rattle.program_files.proofs.Streaming.{begins_nothing}
use Rattle.procd.proofs.program.cannot_write.Goals as goal

pub returns-in-Ok-clause-told : goal.returns-in-Ok-clause-told
returns-in-Ok-clause-told g c =
    (c.in-Ok.ensures.0, subst (Begins _) (c.as_str.ensures.value ∙ c.in-Ok.ensures.1) c.tell.ensures.part)

pub returns-in-Err-clause-told : goal.returns-in-Err-clause-told
returns-in-Err-clause-told g c = ([], c.tell-in-Err.ensures.part)

pub returns-then-eq-clause-told : goal.returns-then-eq-clause-told
returns-then-eq-clause-told g c = ([], begins_nothing _ _)
