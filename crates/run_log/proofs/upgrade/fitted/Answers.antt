use Rattle.std.proofs.Common.{subst}
use Rattle.log_file.specs.declared.header.Header.{Header}
use Rattle.run_log.specs.Checkpoint.{IsCheckpointIn}
use Rattle.run_log.proofs.upgrade.fitted.Goals as goal

pub returns-in-Some : goal.returns-in-Some
returns-in-Some g c = λ start file own is.
    let found = c.args.found in
    (file, found, subst (λ (h : Header). IsCheckpointIn h file found) own is, rw c.as_slice.ensures.value at c.in-Some.ensures)

pub returns-in-Ok : goal.returns-in-Ok
returns-in-Ok g c = λ start file own is.
    let found = c.args.found in (
      file,
      found,
      subst (λ (h : Header). IsCheckpointIn h file found) own is,
      c.in-Ok.ensures.same,
      c.in-Ok.ensures.opened start file own is,
    )
