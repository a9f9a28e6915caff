use Rattle.call_results.proofs.Places.{before_admission}
use Rattle.call_results.proofs.results.place_before.Goals as goal

pub returns-then-admits-clause-before : goal.returns-then-admits-clause-before
returns-then-admits-clause-before c = λ ps legal. before_admission ps _ _ _ _ c.event_at.ensures (c.admits.ensures.0 c.if-admits.true) legal
