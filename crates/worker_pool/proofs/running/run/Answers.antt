use Rattle.worker_pool.proofs.running.run.Goals as goal

pub run_named-requires-clause-kept : goal.run_named-requires-clause-kept
run_named-requires-clause-kept g c = λ _ _ later events kept. record { journal = later; kept = kept }
