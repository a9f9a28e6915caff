-- Calls that are answered in parts, between which the log may begin anew.
use Rattle.std.specs.Prelude.{◌≡◌, ℕ, List, [], ◌∷◌, ◌++◌, length, Option, None, is_some, Bool, false, codes}
use Rattle.data_component.specs.Store.{Store}
use Rattle.scripts.specs.declared.script.Call as said
use Rattle.tc_core.specs.Core.{Core}
use Rattle.tc_core.specs.declared.state.Call.{Call}
use Rattle.worker_pool.specs.declared.answer.Answer.{Answer}
use Rattle.run_ground.specs.declared.ground.Checkpoints.{Checkpoints}
use Rattle.run_log.specs.declared.anew.Renewal.{Renewal}
use Rattle.run_log.specs.declared.anew.Renewal.TheVariants.{Unwanted}
use Rattle.run_log.specs.Anew.{IsRenewal, IsHeeded}
use Rattle.run_ground.specs.Kept.{over_at_end, FileJournal, KeepsLog}
use Rattle.run_calls.specs.AnswerLines.{answer_line, lines_from, call_lines}
use Rattle.run_calls.specs.Answered.{AreCallsOf, AreAnswered, AreServed}
use Rattle.run_command.specs.Fitting.{IsMeasuredIf}

-- calls of the first list and then of the second one that were answered so, and their lines, or a log that may have begun anew
pub data Stage : Type 0 where
  Part : (first calls : List said.Call) → (first_answers other_answers : List Answer) → (lines : List ℕ) → Stage
  Anew : Renewal → Stage

-- the calls that lines of both lists say were answered so on these data components, those of each behind so many of that list; the lines of
-- their answers, where it is wanted with what their slots hold by the state behind them
pub record IsPart (results : Bool) (first_before before : ℕ) (c : Core) (dcs : List Store) (first calls : List said.Call) (first_answers other_answers : List Answer)
    (lines : List ℕ) (c' : Core) (dcs' : List Store) : Type 0 where
  pub first_calls : List Call
  pub first_are : AreCallsOf first first_calls
  pub other_calls : List Call
  pub others_are : AreCallsOf calls other_calls
  pub answered : AreAnswered c first_calls other_calls first_answers other_answers c'
  pub served : AreServed dcs dcs'
  pub printed : lines ≡ lines_from (answer_line (codes "first")) first_before first_answers
      ++ call_lines results c'.procs c'.events before other_answers

-- ---- what was called and answered in all stages

abbrev pub first_in : Stage → List said.Call
first_in (Part first calls first_answers other_answers lines) = first
first_in (Anew renewal) = []

abbrev pub calls_in : Stage → List said.Call
calls_in (Part first calls first_answers other_answers lines) = calls
calls_in (Anew renewal) = []

abbrev pub first_told : Stage → List Answer
first_told (Part first calls first_answers other_answers lines) = first_answers
first_told (Anew renewal) = []

abbrev pub calls_told : Stage → List Answer
calls_told (Part first calls first_answers other_answers lines) = other_answers
calls_told (Anew renewal) = []

abbrev pub lines_of : Stage → List ℕ
lines_of (Part first calls first_answers other_answers lines) = lines
lines_of (Anew renewal) = []

-- all of one kind, those of the last stage behind the others
abbrev pub in_all : {X : Type 0} → (Stage → List X) → List Stage → List X
in_all of [] = []
in_all of (stage ∷ stages) = in_all of stages ++ of stage

-- what came of the log before the next stage
abbrev pub renewal_before : List Stage → Renewal
renewal_before (Anew renewal ∷ stages) = renewal
renewal_before stages = Unwanted

-- one stage more behind these, the last of which stands first; where the log may begin anew between two parts there is room for the calls of each
abbrev pub IsStage : Option ℕ → Bool → List Stage → Stage → Core → List Store → Core → List Store → Type 0
IsStage over results stages (Part first calls first_answers other_answers lines) c dcs c' dcs' =
    IsPart results (length (in_all first_told stages)) (length (in_all calls_told stages)) c dcs first calls first_answers other_answers lines c' dcs'
    × IsMeasuredIf over c.procs dcs (renewal_before stages) (first ++ calls)
IsStage over results stages (Anew renewal) c dcs c' dcs' = IsRenewal c dcs c' dcs' renewal

-- the stages lead from the one to the other
abbrev pub Lead : Option ℕ → Bool → List Stage → Core → List Store → Core → List Store → Type 0
Lead over results [] c dcs c' dcs' = (c' ≡ c) × (dcs' ≡ dcs)
Lead over results (stage ∷ stages) c dcs c' dcs' =
    (m : Core) × (ms : List Store) × Lead over results stages c dcs m ms × IsStage over results stages stage m ms c' dcs'

-- these calls were answered so, with these lines, by stages that lead from the one to the other
pub record HaveLed (over : Option ℕ) (results : Bool) (c : Core) (dcs : List Store) (first calls : List said.Call) (first_answers other_answers : List Answer)
    (lines : List ℕ) (c' : Core) (dcs' : List Store) (stages : List Stage) : Type 0 where
  pub lead : Lead over results stages c dcs c' dcs'
  pub first_are : in_all first_in stages ≡ first
  pub calls_are : in_all calls_in stages ≡ calls
  pub first_told : in_all first_told stages ≡ first_answers
  pub calls_told : in_all calls_told stages ≡ other_answers
  pub lines_are : in_all lines_of stages ≡ lines

-- where the log isn't to begin anew between two parts there is one
abbrev pub AreOne : Option ℕ → List said.Call → List said.Call → List Answer → List Answer → List ℕ → List Stage → Type 0
AreOne over first calls first_answers other_answers lines stages = over ≡ None → stages ≡ Part first calls first_answers other_answers lines ∷ []

-- and where it isn't behind the last call either, it doesn't
abbrev pub IsWanted : Checkpoints → Renewal → Type 0
IsWanted checkpoints renewal = checkpoints.over ≡ None → checkpoints.at_end ≡ false → renewal ≡ Unwanted

-- a run that keeps its log has its journal after the last call, whose file has all of the last log on the disk; that has begun anew if it is
-- to, or is barred
abbrev pub IsKeptSo : (keeps : Bool) → Option FileJournal → Checkpoints → Core → Renewal → Type 0
IsKeptSo keeps journal checkpoints last renewal =
    (is_some journal ≡ keeps) × KeepsLog journal last.events × IsHeeded journal (over_at_end checkpoints) renewal
