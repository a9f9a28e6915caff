use Rattle.log_journal.proofs.journal.LogJournal.begin_anew.Goals as goal

pub returns-clause-kept : goal.returns-clause-kept
returns-clause-kept g c = rw c.over-journal.ensures.header at c.write_anew-kept.ensures.kept
