use Rattle.run_log.proofs.recovering.open_log.Goals as goal

pub returns-in-Some : goal.returns-in-Some
returns-in-Some g c = rw c.in-Some.is at c.in_ok-opening.ensures

pub returns-in-Some-2 : goal.returns-in-Some-2
returns-in-Some-2 g c = rw c.in-Some-2.is at c.in_ok-opening-2.ensures
