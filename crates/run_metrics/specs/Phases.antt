-- What calls do, and the numbers by which that is held.
use Rattle.std.specs.Prelude.{ℕ, List, codes}
use Rattle.run_metrics.specs.declared.phase.Phase.{Phase}
use Rattle.run_metrics.specs.declared.phase.Phase.TheVariants.{Waiting, Asking, Carrying, Keeping, Told}

abbrev pub phase_name : Phase → List ℕ
phase_name Waiting = codes "waiting"
phase_name Asking = codes "asking"
phase_name Carrying = codes "carrying"
phase_name Keeping = codes "keeping"
phase_name Told = codes "told"

abbrev pub phase_code : Phase → ℕ
phase_code Waiting = 0
phase_code Asking = 1
phase_code Carrying = 2
phase_code Keeping = 3
phase_code Told = 4
