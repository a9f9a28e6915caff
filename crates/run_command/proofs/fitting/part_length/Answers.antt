use Rattle.run_command.specs.Fitting.{Unbounded}
use Rattle.run_command.proofs.fitting.part_length.Goals as goal

pub returns-in-0-Barred-clause-measured : goal.returns-in-0-Barred-clause-measured
returns-in-0-Barred-clause-measured c = Unbounded c.in-0-Barred.field-0-1 c.in-0-Barred.is-1
