use Rattle.worker_pool.specs.Journals.{WasKept}
use Rattle.worker_pool.proofs.running.run.Given as goal

abbrev pub ghosts-run_named : goal.ghosts-run_named
ghosts-run_named g a = record {
  start = a.state;
  calls = a.calls.now;
  keeps = g.K.Journal.keeps a.journal;
  before = g.K.Journal.has_kept a.journal;
  kept = λ events. WasKept g.K.Journal.has_kept events;
  since = g.K.Journal.moment a.journal;
  past = g.K.Journal.left_since a.journal;
  leaves = g.K.Journal.leaves a.journal;
  book = a.opened.seen.book;
}
