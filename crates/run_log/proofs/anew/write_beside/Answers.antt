use Rattle.run_log.proofs.anew.write_beside.Goals as goal

pub returns-in-Ok-kept-clause-written : goal.returns-in-Ok-kept-clause-written
returns-in-Ok-kept-clause-written g c = (c.begin_anew-journal.ensures.header, rw c.in-Ok-kept.is at c.begin_anew-journal.ensures.kept)
