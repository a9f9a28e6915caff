use Rattle.std.proofs.Common.{refl, subst, ◌∙◌, inl}
use Rattle.program_files.specs.Streams.{Begins}
use Rattle.procd.proofs.program.cannot_read.Goals as goal

pub returns-in-Ok : goal.returns-in-Ok
returns-in-Ok g c = inl (refl, (c.in-Ok.ensures.0, subst (Begins _) (c.as_str.ensures.value ∙ c.in-Ok.ensures.1) c.tell.ensures.part))
