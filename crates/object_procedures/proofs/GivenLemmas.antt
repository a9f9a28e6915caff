-- A procedure that isn't given.
use Rattle.std.proofs.Common.{◌≡◌, ℕ, List, ◌∷◌}
use Rattle.std.specs.Prelude.{Option, Result, string_bytes}
use Rattle.object_file.specs.LineSections.{LineBytes}
use Rattle.scripts.specs.declared.script.Procedure.{Procedure}
use Rattle.object_procedures.specs.Each.{each}
use Rattle.object_procedures.specs.Given.{given_of, IsStop}
use Rattle.object_procedures.specs.declared.finding.Found.{Found}
use Rattle.object_procedures.specs.declared.given.Ungiven.{Ungiven}
use Rattle.object_procedures.specs.declared.given.Ungiven.TheVariants.{Refused, Memory}
use Rattle.object_procedures.proofs.Each.{behind, each_bad}

pub given_stop : (lines : Option LineBytes) (xs rest : List Found) (x : Found) (e : Ungiven) (done : List Procedure) (total : Result (List Procedure) (List ℕ))
    → xs ≡ x ∷ rest → IsStop (given_of lines x) e → total ≡ behind done (each (given_of lines) xs) → IsStop total e
given_stop lines xs rest x (Refused report) done total is here so_far =
    (each_bad (given_of lines) xs rest x (string_bytes report.lines) done total is here.0 so_far, here.1)
given_stop lines xs rest x Memory done total is here so_far = tt
