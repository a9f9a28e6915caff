use Rattle.run_calls.proofs.answering.listed.Goals as goal

pub returns-in-Err-clause-fault : goal.returns-in-Err-clause-fault
returns-in-Err-clause-fault c = rw c.in-Err.is (c.failure_of-failure.result, c.stop_of.ensures)
