use Rattle.embedding.proofs.opened.waiting_at.Goals as goal

pub returns-in_default-clause-none : goal.returns-in_default-clause-none
returns-in_default-clause-none c = λ txn proc sent w. c.in_default.ensures.none txn proc w.is_open
