use Rattle.log_journal.proofs.journal.LogJournalJournal.keep.Goals as goal

pub returns-clause-any_moment : goal.returns-clause-any_moment
returns-clause-any_moment g c = λ before was.
    let it = c.keep_from.ensures.any_moment before was in
    record { later = it.later; each = it.each; before = it.before }
