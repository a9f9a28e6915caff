use Rattle.std.proofs.Common.{Some, reverse, sym, subst}
use Rattle.disk_file.specs.Disk.{disk_bytes, left_of}
use Rattle.log_file.specs.declared.header.Header.{Header}
use Rattle.log_journal.specs.Keeping.{HasWrittenBehind}
use Rattle.run_log.proofs.anew.write_anew.Goals as goal

pub returns-clause-kept : goal.returns-clause-kept
returns-clause-kept g c =
    let j = c.in_ok-journal.field-0 in
    let base = c.in_ok-base.base.items in
    let written = rw c.as_slice.ensures.value at c.in_ok-journal.ensures.written in
    record {
      base = base;
      rows = c.in_ok-base.ensures;
      written = subst (λ (h : Header). HasWrittenBehind disk_bytes left_of h (Some base) j.file (reverse c.args.log.now.events)) (sym written.0) written.1;
    }
