use Rattle.std.proofs.Common.{refl}
use Rattle.procd.proofs.Faults.{no_memory_runs}
use Rattle.procd.proofs.program.refuse_words.Goals as goal

pub returns-in-Clap-clause-runs : goal.returns-in-Clap-clause-runs
returns-in-Clap-clause-runs g c = λ file wish input says.
    let m = c.misuse.ensures.memory (rw c.in-Clap.is at says) in
    no_memory_runs file wish input _ _ _ m.0 m.1 m.2

pub returns-in-Memory-clause-runs : goal.returns-in-Memory-clause-runs
returns-in-Memory-clause-runs g c = λ file wish input says.
    no_memory_runs file wish input _ _ _ c.no_memory.ensures.status refl c.no_memory.ensures.told
