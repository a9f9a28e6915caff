-- Runs of verified code outside of transactions.
use Rattle.std.specs.Prelude.{◌≡◌, ℕ, true, false, List, Option, Some, None}
use Rattle.access_slots.specs.Access.{fits, is_no_room}
use Rattle.access_slots.specs.declared.op.Op.{Op}
use Rattle.access_slots.specs.declared.op.Said.{Said}
use Rattle.semantics.specs.Step.{Config}
use Rattle.semantics.specs.Row.{plain_bases}
use Rattle.verifier.specs.Checked.{Checked}
use Rattle.interpreter.specs.Standing.{Standing, IsStarted}
use Rattle.interpreter.specs.Gives.{Pauses}
use Rattle.interpreter.specs.declared.pause.Pause.{Pause}
use Rattle.interpreter.specs.declared.pause.Pause.TheVariants as pause
use Rattle.transactions.specs.Reached.{stop_at, Fitting}
use Rattle.embedding.specs.declared.program.Run.{Run}

-- verified code, and its run where that waits for an answer
pub record Held : Type 0 where
  pub code : Checked
  pub run : Option Run

-- the machine stopped where the run of this code on these answers does
pub record Stands (q : Checked) (m : Standing) (p : Pause) (answers : List Said) : Type 0 where
  pub started : IsStarted q.decl m
  pub layout : m.bases ≡ plain_bases
  pub fit : Fitting q m.args answers
  pub pauses : Pauses p m.config (stop_at q m.args answers)

-- a run that waits has come to its question on some answers
abbrev pub IsFine : Checked → Option Run → Type 0
IsFine q None = Unit {0}
IsFine q (Some r) = (answers : List Said) × Stands q r.machine (pause.Ask r.op) answers

-- a run waits, and goes on with this answer: it fits the question, and isn't NoRoom
pub record Takes (run : Option Run) (said : Said) : Type 0 where
  pub asked : Run
  pub waits : run ≡ Some asked
  pub fit : fits asked.op said ≡ true
  pub room : is_no_room said ≡ false

-- what is kept of a machine that stopped so
abbrev pub run_by : Pause → Standing → Option Run
run_by (pause.Ask o) m = Some (record { machine = m; op = o })
run_by (pause.Exit v) m = None

-- a run with these arguments waits for an answer to this operation, behind these answers
pub record WaitsBehind (q : Checked) (args : List ℕ) (answers : List Said) (o : Op) (run : Option Run) : Type 0 where
  pub r : Run
  pub is : run ≡ Some r
  pub op : r.op ≡ o
  pub call : r.machine.args ≡ args
  pub stands : Stands q r.machine (pause.Ask o) answers

abbrev pub WaitsIfAsked : Checked → List ℕ → List Said → Pause → Option Run → Type 0
WaitsIfAsked q args answers (pause.Ask o) run = WaitsBehind q args answers o run
WaitsIfAsked q args answers (pause.Exit v) run = run ≡ None

-- the run of this code with these arguments stops so on these answers, after so many instructions, and waits where it asks
pub record StopsAt (q : Checked) (args : List ℕ) (answers : List Said) (p : Pause) (taken : ℕ) (run : Option Run) : Type 0 where
  pub config : Config
  pub pauses : Pauses p config (stop_at q args answers)
  pub count : taken ≡ config.taken
  pub waits : WaitsIfAsked q args answers p run
