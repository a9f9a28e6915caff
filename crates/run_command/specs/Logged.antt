-- The calls of a script whose log is kept in a file.
use Rattle.std.specs.Prelude.{◌≡◌, ◌++◌, ℕ, Bool, true, false, List, length, reverse, Option, Some, None}
use Rattle.tc_log.specs.declared.event.Event.{Event}
use Rattle.base_records.specs.Beginning.{HaveBegun}
use Rattle.data_component.specs.Store.{Store}
use Rattle.log_file.specs.Bytes.{Rows}
use Rattle.scripts.specs.Reading.{Contents}
use Rattle.scripts.specs.declared.script.Call as said
use Rattle.script_loading.specs.Loading.{Beginning, begun, empty_stores}
use Rattle.tc_core.specs.Core.{Core}
use Rattle.coming_back.specs.declared.resumed.Resumed.{Resumed}
use Rattle.run_ground.specs.declared.ground.Checkpoints.{Checkpoints}
use Rattle.run_log.specs.declared.anew.Renewal.{Renewal}
use Rattle.run_log.specs.declared.anew.Renewal.TheVariants.{Unwanted}
use Rattle.run_log.specs.Anew.{IsRenewal, renewal_line}
use Rattle.run_ground.specs.Kept.{FileJournal}
use Rattle.run_log.specs.LogLines.{back_lines}
use Rattle.run_log.specs.Recovering.{IsLogFor, HasComeBack, GoesOn, IsLogRefusal}
use Rattle.run_command.specs.Parts.{IsKeptSo}
use Rattle.run_command.specs.Running.{IsCallsRun}
use Rattle.run_ground.specs.declared.stop.Stop.{Stop}
use Rattle.run_calls.specs.AnswerLines.{fault_line}
use Rattle.run_calls.specs.Stops.{Stops}

-- behind these lines, and that of a log that may begin anew first, those of the calls, which are run from there, with the log of the last state
-- on the disk
pub record IsRunOn (journal : Option FileJournal) (checkpoints : Checkpoints) (back : Core) (dcs : List Store) (first calls : List said.Call)
    (workers tries : ℕ) (audit strict results : Bool) (status : ℕ) (before lines : List ℕ) : Type 0 where
  pub renewal : Renewal
  pub anew : Core
  pub anew_dcs : List Store
  pub renewed : IsRenewal back dcs anew anew_dcs renewal
  pub wanted : checkpoints.over ≡ None → renewal ≡ Unwanted
  pub answers : List ℕ
  pub ran : IsCallsRun (IsKeptSo true journal checkpoints) checkpoints anew anew_dcs first calls workers tries audit strict results status answers
  pub lines_are : lines ≡ (before ++ renewal_line anew.events renewal) ++ answers

-- the lines of what came back, and behind them those of the calls
pub record IsRunBehind (journal : Option FileJournal) (checkpoints : Checkpoints) (start : Core) (empties : List Store) (first calls : List said.Call)
    (workers tries : ℕ) (audit strict results : Bool) (status : ℕ) (lines : List ℕ) : Type 0 where
  pub file : List ℕ
  pub base : Option Rows
  pub log : List Event
  pub is_log : IsLogFor start file base log
  pub begun : List Store
  pub begins : HaveBegun base (reverse log) empties begun
  pub back : Core
  pub dcs : List Store
  pub resumed : List Resumed
  pub came_back : HasComeBack start begun log back dcs resumed
  pub goes_on : GoesOn start begun log back dcs
  pub dropped : ℕ
  pub path : List ℕ
  pub on : IsRunOn journal checkpoints back dcs first calls workers tries audit strict results status (back_lines (length log) dropped path resumed) lines

-- no file is opened where the numbers of workers and tries are out of range; else the log is refused, or the calls are run behind it
pub data IsLoggedRun (journal : Option FileJournal) (checkpoints : Checkpoints) (start : Core) (empties : List Store) (first calls : List said.Call)
    (workers tries : ℕ) (audit strict results : Bool) (status : ℕ) (lines : List ℕ) : Type 0 where
  Unopened : (stop : Stop) → Stops false workers tries stop → status ≡ 1 → fault_line stop ≡ Some lines
      → IsLoggedRun journal checkpoints start empties first calls workers tries audit strict results status lines
  Refused : IsLogRefusal start empties lines → status ≡ 1
      → IsLoggedRun journal checkpoints start empties first calls workers tries audit strict results status lines
  Behind : IsRunBehind journal checkpoints start empties first calls workers tries audit strict results status lines
      → IsLoggedRun journal checkpoints start empties first calls workers tries audit strict results status lines

abbrev pub IsLoggedBy : Option FileJournal → Checkpoints → Option (List ℕ) → Contents → ℕ → ℕ → Bool → Bool → Bool → ℕ → List ℕ → Type 0
IsLoggedBy journal checkpoints (Some refusal) contents workers tries audit strict results status lines = (status ≡ 1) × (lines ≡ refusal)
IsLoggedBy journal checkpoints None contents workers tries audit strict results status lines =
    IsLoggedRun journal checkpoints (begun contents) (empty_stores contents) contents.first contents.calls workers tries audit strict results status lines

-- of a script that is refused no file is opened
abbrev pub IsLogged : Option FileJournal → Checkpoints → ℕ → ℕ → Bool → Bool → Bool → Beginning → ℕ → List ℕ → Type 0
IsLogged journal checkpoints workers tries audit strict results b status lines = IsLoggedBy journal checkpoints b.refusal
    b.contents workers tries audit strict results status lines
