use Rattle.std.proofs.Common.{List, Some, reverse, sym, subst}
use Rattle.disk_file.specs.Disk.{disk_bytes, left_of}
use Rattle.log_file.specs.declared.header.Header.{Header}
use Rattle.log_file.specs.Bytes.{rows_of}
use Rattle.log_journal.specs.Keeping.{HasWritten, IsLogOf}
use Rattle.tc_log.specs.declared.event.Event.{Event}
use Rattle.tc_log.specs.Reading.{ArePrinted, AreOnlyOnes}
use Rattle.run_log.specs.Anew.{HasWrittenAnew}
use Rattle.run_log.proofs.UpgradeLemmas.{says_written}
use Rattle.run_log.proofs.upgrade.rewrite.Goals as goal

pub returns-in-Ok-clause-opened : goal.returns-in-Ok-clause-opened
returns-in-Ok-clause-opened g c = λ start file own is.
    let j = c.in-Ok.journal in
    let header = c.args.header in
    let base = c.args.found.base.items in
    let events = c.args.found.log.events in
    let written : HasWrittenAnew header base events j = rw c.as_slice.ensures.value at c.in-Ok.ensures.written in
    let says = is.stored.says in
    let rows = rows_of says.batches in
    let printed = subst (λ (log : List Event). ArePrinted (reverse log) rows) (sym is.log_is) says.printed in
    let only = subst (λ (log : List Event). AreOnlyOnes (reverse log) rows) (sym is.log_is) says.only in
    record {
      file = disk_bytes j.file.frames.device;
      is_log = subst (λ (h : Header). IsLogOf h (disk_bytes j.file.frames.device) (Some base) (reverse events)) own
          (says_written header base events j rows written printed only);
      kept = subst (λ (h : Header). HasWritten disk_bytes left_of h j.file (reverse events)) (sym written.0) written.1.0;
    }
