-- Where the machine of an open transaction stands.
use Rattle.std.specs.Prelude.{◌≡◌, ℕ, List, Option, true}
use Rattle.access_slots.specs.Access.{fits}
use Rattle.access_slots.specs.declared.op.Op.{Op}
use Rattle.access_slots.specs.declared.op.Said.{Said}
use Rattle.semantics.specs.Row.{plain_bases}
use Rattle.verifier.specs.Checked.{Checked}
use Rattle.interpreter.specs.Standing.{IsStarted}
use Rattle.interpreter.specs.Gives.{Pauses}
use Rattle.interpreter.specs.declared.pause.Pause.{Pause}
use Rattle.interpreter.specs.declared.pause.Pause.TheVariants as pause
use Rattle.transactions.specs.Reached.{Reached, Asks, Ends, reached_of, stop_at, Fitting}
use Rattle.transactions.specs.declared.Next.{Next}
use Rattle.transactions.specs.Legal.{first_undo}
use Rattle.transactions.specs.Next.{next_by}
use Rattle.transactions.specs.declared.Next.TheVariants as next
use Rattle.tc_core.specs.declared.transaction.Tx.{Tx}
use Rattle.tc_core.specs.declared.transaction.NextStep.{NextStep}
use Rattle.tc_core.specs.declared.transaction.NextStep.TheVariants as doing

-- the machine, and what it stopped at, are where the procedure's run stands on these answers
pub record Runs (q : Checked) (tx : Tx) (args : List ℕ) (answers : List Said) : Type 0 where
  pub started : IsStarted q.decl tx.machine
  pub call : tx.machine.args ≡ args
  pub layout : tx.machine.bases ≡ plain_bases
  pub pauses : Pauses tx.pause tx.machine.config (stop_at q args answers)

-- it asked for the operation, and the answer fits it
pub record MayResume (q : Checked) (tx : Tx) (args : List ℕ) (answers : List Said) (o : Op) (said : Said) : Type 0 where
  pub runs : Runs q tx args answers
  pub fit : Fitting q args answers
  pub asks : reached_of (stop_at q args answers) ≡ Asks o
  pub fits : fits o said ≡ true

-- where a run stands that stopped so
abbrev pub as_reached : Pause → Reached
as_reached (pause.Ask o) = Asks o
as_reached (pause.Exit v) = Ends v

-- what the transaction does next, as it is kept
abbrev pub does : Tx → Option Next
does tx = next_by tx.sent tx.full (first_undo tx.undo.ops) tx.tries tx.last (as_reached tx.pause)

-- the same, with the operation itself in place of where it stands
abbrev pub as_next : NextStep → Next
as_next (doing.Waits n) = next.Waits n
as_next (doing.Asks o) = next.Asks o.now
as_next (doing.Undoes o) = next.Undoes o.now
as_next (doing.Stuck n) = next.Stuck n
as_next (doing.Over o) = next.Over o
