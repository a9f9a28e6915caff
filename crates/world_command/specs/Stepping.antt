-- A script's steps taken one after another: what each is answered, and the lines that say it.
use Rattle.std.specs.Prelude.{◌≡◌, ℕ, ◌+◌, ◌%◌, Bool, true, false, ◌&&◌, ◌==◌, if◌then◌else◌, List, [], ◌∷◌, ◌++◌, is_ok, Result, Ok, Err}
use Rattle.scripts.specs.declared.script.Call.{Call as ScriptCall}
use Rattle.scripts.specs.declared.script.Step.{Step as ScriptStep}
use Rattle.scripts.specs.declared.script.Step.TheVariants as script
use Rattle.tc_core.specs.declared.state.Call.{Call}
use Rattle.tc_core.specs.declared.state.Refusal.TheVariants as refusal
use Rattle.tc_world.specs.Whole.{Whole}
use Rattle.tc_world.specs.Steps.{Steps, IsIllegal}
use Rattle.tc_world.specs.declared.step.Step.{Step}
use Rattle.tc_world.specs.declared.step.Step.TheVariants as step
use Rattle.tc_world.specs.declared.step.Outcome.{Outcome}
use Rattle.tc_world.specs.declared.step.Illegal.{Illegal}
use Rattle.tc_world.specs.declared.step.Illegal.TheVariants as illegal
use Rattle.report_texts.specs.Hex.{pair_text}
use Rattle.world_command.specs.OutcomeLines.{step_line}

-- ---- steps

pub record IsCallOf (said : ScriptCall) (call : Call) : Type 0 where
  pub proc : call.proc ≡ said.procedure
  pub args : call.args.items ≡ said.args

abbrev pub IsAdmitOf : ScriptCall → Step → Type 0
IsAdmitOf said (step.Admit call) = IsCallOf said call
IsAdmitOf said other = ⊥

-- the world's step that a line of the script says
abbrev pub IsStepOf : ScriptStep → Step → Type 0
IsStepOf (script.Admit call) s = IsAdmitOf call s
IsStepOf (script.Ask t) s = s ≡ step.Ask t
IsStepOf (script.Undo t) s = s ≡ step.Undo t
IsStepOf (script.End t) s = s ≡ step.End t
IsStepOf (script.Resend t) s = s ≡ step.Resend t
IsStepOf (script.Perform i) s = s ≡ step.Perform i
IsStepOf (script.Take i) s = s ≡ step.Take i
IsStepOf (script.Restart d) s = s ≡ step.Restart d
IsStepOf (script.Checkpoint d) s = s ≡ step.Checkpoint d
IsStepOf (script.Tell i) s = s ≡ step.Tell i
IsStepOf (script.Redo d) s = s ≡ step.Redo d
IsStepOf (script.Crash events) s = s ≡ step.Crash events
IsStepOf script.Cut s = s ≡ step.Cut
IsStepOf (script.Forge x) s = s ≡ step.Forge x

abbrev pub Told : Type 0
Told = Result Outcome Illegal

-- the step is answered so, and the world is that one then: itself, where the step isn't possible
abbrev pub Answers : Whole → Step → Told → Whole → Type 0
Answers w s (Ok o) w' = Steps w s o w'
Answers w s (Err why) w' = (w' ≡ w) × IsIllegal w s why

-- want of memory, which ends the program and is never printed
abbrev pub is_want_of_memory : Told → Bool
is_want_of_memory (Err (illegal.Refused refusal.Memory)) = true
is_want_of_memory (Err illegal.Memory) = true
is_want_of_memory other = false

pub record AnswersLine (w : Whole) (line : ScriptStep) (told : Told) (w' : Whole) : Type 0 where
  pub step : Step
  pub says : IsStepOf line step
  pub answers : Answers w step told w'
  pub memory : is_want_of_memory told ≡ false

-- one line after another, whatever the ones before were answered
abbrev pub Takes : Whole → List ScriptStep → List Told → Whole → Type 0
Takes w [] told w' = (told ≡ []) × (w' ≡ w)
Takes w (x ∷ xs) told w' = (first : Told) × (mid : Whole) × (rest : List Told) × AnswersLine w x first mid
    × (told ≡ first ∷ rest) × Takes mid xs rest w'

-- ---- lines

abbrev pub step_lines : List Told → List ℕ
step_lines [] = []
step_lines (x ∷ xs) = step_line x ++ step_lines xs

abbrev pub all_possible : List Told → Bool
all_possible [] = true
all_possible (x ∷ xs) = is_ok x && all_possible xs

-- the lines are taken, a line is added for each, and the last value says whether all were possible
pub record AreTaken (w : Whole) (steps : List ScriptStep) (w' : Whole) (old new : List ℕ) (all : Bool) : Type 0 where
  pub told : List Told
  pub takes : Takes w steps told w'
  pub lines : new ≡ old ++ step_lines told
  pub possible : all ≡ all_possible told

-- ---- the log

-- two digits a byte, and an end of line behind each 96
abbrev pub log_from : ℕ → List ℕ → List ℕ
log_from at [] = []
log_from at (b ∷ bytes) = (pair_text b ++ (if at % 96 == 95 then 10 ∷ [] else [])) ++ log_from (at + 1) bytes

abbrev pub log_lines : List ℕ → List ℕ
log_lines bytes = log_from 0 bytes
