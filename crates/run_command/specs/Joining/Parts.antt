-- How far calls that are answered in parts have come.
use Rattle.std.specs.Prelude.{◌≡◌, ℕ, Bool, List, [], ◌++◌, length, Option, None, string_bytes}
use Rattle.data_component.specs.Store.{Store}
use Rattle.scripts.specs.declared.script.Call.{Call}
use Rattle.tc_core.specs.Core.{Core}
use Rattle.worker_pool.specs.declared.answer.Answer.{Answer}
use Rattle.run_ground.specs.declared.ground.Checkpoints.{Checkpoints}
use Rattle.run_ground.specs.declared.ground.Ground.{Ground}
use Rattle.run_command.specs.declared.parts.RunOutcome.{RunOutcome}
use Rattle.run_log.specs.Anew.{IsRenewal, IsHeeded}
use Rattle.run_ground.specs.Kept.{over_at_end}
use Rattle.run_command.specs.Parts.{Stage, IsPart, HaveLed, AreOne, IsWanted}

-- one part more is answered, and its lines stand behind the others
pub record IsStep (results : Bool) (was : RunOutcome) (first calls : List Call) (now : RunOutcome) : Type 0 where
  pub first_answers : List Answer
  pub other_answers : List Answer
  pub lines : List ℕ
  pub part : IsPart results (length was.answers.first.items) (length was.answers.calls.items) was.ground.state was.ground.dcs.items first calls first_answers other_answers lines
      now.ground.state now.ground.dcs.items
  pub first_told : now.answers.first.items ≡ was.answers.first.items ++ first_answers
  pub calls_told : now.answers.calls.items ≡ was.answers.calls.items ++ other_answers
  pub lines_are : string_bytes now.lines ≡ string_bytes was.lines ++ lines

-- these calls were answered
pub record HasCome (results : Bool) (start : Core) (dcs : List Store) (over : Option ℕ) (first calls : List Call) (o : RunOutcome) : Type 0 where
  pub stages : List Stage
  pub led : HaveLed over results start dcs first calls o.answers.first.items o.answers.calls.items (string_bytes o.lines) o.ground.state o.ground.dcs.items
      stages
  pub one : AreOne over first calls o.answers.first.items o.answers.calls.items (string_bytes o.lines) stages

-- all calls but these were answered; where the log isn't to begin anew between two parts there are no others
pub record AreSoFar (results : Bool) (start : Ground) (over : Option ℕ) (first calls first_rest rest : List Call) (o : RunOutcome) : Type 0 where
  pub first_done : List Call
  pub done : List Call
  pub first_all : first ≡ first_done ++ first_rest
  pub all : calls ≡ done ++ rest
  pub come : HasCome results start.state start.dcs.items over first_done done o
  pub none : over ≡ None → (first_rest ≡ []) × (rest ≡ [])

-- all are answered, and the log may have begun anew behind the last
pub record HasEnded (results : Bool) (start : Core) (dcs : List Store) (first calls : List Call) (checkpoints : Checkpoints) (o : RunOutcome)
    : Type 0 where
  pub behind : Core
  pub behind_dcs : List Store
  pub stages : List Stage
  pub led : HaveLed checkpoints.over results start dcs first calls o.answers.first.items o.answers.calls.items (string_bytes o.lines) behind behind_dcs stages
  pub one : AreOne checkpoints.over first calls o.answers.first.items o.answers.calls.items (string_bytes o.lines) stages
  pub renewed : IsRenewal behind behind_dcs o.ground.state o.ground.dcs.items o.renewal
  pub wanted : IsWanted checkpoints o.renewal
  pub heeded : IsHeeded o.ground.journal (over_at_end checkpoints) o.renewal
