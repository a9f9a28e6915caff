-- What the calls of a script print when workers run them, and the exit status.
use Rattle.std.specs.Prelude.{◌≡◌, ℕ, Bool, false, if◌then◌else◌, List, ◌++◌, Option, Some, None}
use Rattle.std.specs.List.{list_any}
use Rattle.data_component.specs.Store.{Store}
use Rattle.scripts.specs.Reading.{Contents}
use Rattle.scripts.specs.declared.script.Call as said
use Rattle.tc_core.specs.Core.{Core}
use Rattle.worker_pool.specs.Faults.{InRange}
use Rattle.worker_pool.specs.declared.answer.Answer.{Answer}
use Rattle.run_ground.specs.declared.ground.Checkpoints.{Checkpoints}
use Rattle.run_log.specs.declared.anew.Renewal.{Renewal}
use Rattle.run_ground.specs.declared.stop.Stop.{Stop}
use Rattle.run_calls.specs.AnswerLines.{fault_line}
use Rattle.run_calls.specs.Answered.{is_want_of_memory, run_status}
use Rattle.run_log.specs.Anew.{IsRenewal, renewal_line}
use Rattle.run_command.specs.Parts.{Stage, HaveLed, AreOne, IsWanted}
use Rattle.run_calls.specs.Stops.{Stops}
use Rattle.state_lines.specs.AuditLines.{AddsIf, AddsAudit}
use Rattle.script_loading.specs.Loading.{Beginning, begun, empty_stores}
use Rattle.state_lines.specs.RowLines.{AddsRowLines}

-- ---- the report

-- the lines of both lists' answers, none of which is want of memory, behind them what came of a log that may begin anew, and the rows of these
-- data components, and behind these, where it is wanted, what an audit of them and of the log finds; the status says whether a call of the
-- second list failed, where that counts
pub record AreLinesOf (last : Core) (dcs : List Store) (audit strict : Bool) (first_answers other_answers : List Answer) (told : List ℕ) (renewal : Renewal)
    (status : ℕ) (lines : List ℕ) : Type 0 where
  pub ample : (list_any is_want_of_memory first_answers ≡ false) × (list_any is_want_of_memory other_answers ≡ false)
  pub kept : List ℕ
  pub rows : AddsRowLines dcs (told ++ renewal_line last.events renewal) kept
  pub sound : Bool
  pub found : AddsIf audit kept lines sound (AddsAudit last.procs last.events dcs kept lines sound)
  pub status_is : status ≡ run_status strict other_answers sound

-- the calls that the lines say are run over these data components, in stages, and their answers, where it is wanted with what slots hold, and
-- the rows behind them are printed; behind the last call the log may begin anew; of the last state and of that log this is so
pub record ArePrinted (Kept : Core → Renewal → Type 0) (checkpoints : Checkpoints) (start : Core) (dcs : List Store) (first calls : List said.Call)
    (audit strict results : Bool) (status : ℕ) (lines : List ℕ) : Type 0 where
  pub first_answers : List Answer
  pub other_answers : List Answer
  pub told : List ℕ
  pub behind : Core
  pub behind_dcs : List Store
  pub stages : List Stage
  pub led : HaveLed checkpoints.over results start dcs first calls first_answers other_answers told behind behind_dcs stages
  pub one : AreOne checkpoints.over first calls first_answers other_answers told stages
  pub last : Core
  pub last_dcs : List Store
  pub renewal : Renewal
  pub renewed : IsRenewal behind behind_dcs last last_dcs renewal
  pub wanted : IsWanted checkpoints renewal
  pub printed : AreLinesOf last last_dcs audit strict first_answers other_answers told renewal status lines
  pub kept : Kept last renewal

-- they are run, whatever they are answered, or it is printed why not: what has a line stops a run without a journal too
pub data IsCallsRun (Kept : Core → Renewal → Type 0) (checkpoints : Checkpoints) (start : Core) (dcs : List Store) (first calls : List said.Call)
    (workers tries : ℕ) (audit strict results : Bool) (status : ℕ) (lines : List ℕ) : Type 0 where
  Ran : InRange workers tries → ArePrinted Kept checkpoints start dcs first calls audit strict results status lines
      → IsCallsRun Kept checkpoints start dcs first calls workers tries audit strict results status lines
  Stopped : (stop : Stop) → Stops false workers tries stop → status ≡ 1 → fault_line stop ≡ Some lines
      → IsCallsRun Kept checkpoints start dcs first calls workers tries audit strict results status lines

-- no log begins anew
abbrev pub never : Checkpoints
never = record { at_end = false; over = None }

abbrev pub IsRunBy : Option (List ℕ) → Contents → ℕ → ℕ → Bool → Bool → Bool → ℕ → List ℕ → Type 0
IsRunBy (Some refusal) contents workers tries audit strict results status lines = (status ≡ 1) × (lines ≡ refusal)
IsRunBy None contents workers tries audit strict results status lines =
    IsCallsRun (λ _ _. Unit {0}) never (begun contents) (empty_stores contents) contents.first contents.calls workers tries audit strict results status lines

-- of a script that is refused no call is made
abbrev pub IsRun : ℕ → ℕ → Bool → Bool → Bool → Beginning → ℕ → List ℕ → Type 0
IsRun workers tries audit strict results b status lines = IsRunBy b.refusal b.contents workers tries audit strict results status lines
