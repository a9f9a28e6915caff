use Rattle.std.proofs.Common.{reverse, sym, subst}
use Rattle.log_file.specs.declared.file.LogFile.{LogFile}
use Rattle.log_file.specs.Found.{base_in}
use Rattle.log_journal.specs.Keeping.{HasWrittenBehind}
use Rattle.log_journal.proofs.journal.LogJournal.open.Goals as goal

pub returns-clause-kept : goal.returns-clause-kept
returns-clause-kept g c =
    let restored = c.in_ok-restored.restored in
    subst (λ (file : LogFile g.row.D.Denot). HasWrittenBehind g.D.Device.seen g.D.Device.may_leave c.args.header
    (base_in restored.base) file (reverse restored.log.events))
    (sym c.over.ensures.file) c.in_ok-restored.ensures.kept
