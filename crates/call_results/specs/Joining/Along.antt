-- A run that is run again along a log.
use Rattle.std.specs.Prelude.{◌≡◌, ℕ, Bool, true, false, List, ◌∷◌, reverse, Option, Some, None, slice_get}
use Rattle.access_slots.specs.Access.{fits, is_no_room}
use Rattle.access_slots.specs.declared.op.Op.{Op}
use Rattle.access_slots.specs.declared.op.Said.{Said}
use Rattle.semantics.specs.Row.{plain_bases}
use Rattle.tc_log.specs.declared.event.Event.{Event}
use Rattle.tc_log.specs.declared.event.Event.TheVariants.{Admit}
use Rattle.verifier.specs.Checked.{Checked}
use Rattle.interpreter.specs.Standing.{IsStarted}
use Rattle.interpreter.specs.Gives.{Pauses}
use Rattle.transactions.specs.declared.Sent.{Sent}
use Rattle.transactions.specs.Legal.{Legal}
use Rattle.transactions.specs.Reached.{AllGood, Asks, Fitting, plain, reached_of, stop_at}
use Rattle.transactions.specs.Standing.{Standing, standing}
use Rattle.call_results.specs.Results.{holds_record}
use Rattle.call_results.specs.declared.rerun.Rerun.{Rerun}

-- the machine, and what it stopped at, are where the procedure's run stands on these answers; so is what is known of the slot
pub record Runs (q : Checked) (r : Rerun) (args : List ℕ) (answers : List Said) : Type 0 where
  pub started : IsStarted q.decl r.machine
  pub call : r.machine.args ≡ args
  pub layout : r.machine.bases ≡ plain_bases
  pub pauses : Pauses r.pause r.machine.config (stop_at q args answers)
  pub there : r.is_there ≡ holds_record (plain q args) r.slot (reverse answers)

-- it asked for the operation, and the answer fits it
pub record MayHear (q : Checked) (r : Rerun) (args : List ℕ) (answers : List Said) (o : Op) (said : Said) : Type 0 where
  pub runs : Runs q r args answers
  pub fitting : Fitting q args answers
  pub asks : reached_of (stop_at q args answers) ≡ Asks o
  pub fit : fits o said ≡ true

-- the transaction stands so
pub record IsAlong (ps : List Checked) (r : Rerun) (s : Standing) : Type 0 where
  pub q : Checked
  pub loaded : slice_get ps s.call.proc ≡ Some q
  pub proc : r.proc ≡ s.call.proc
  pub is_open : r.is_open ≡ true
  pub undoing : (x : Sent) → s.sent ≡ Some x → x.undoing ≡ r.is_undoing
  pub full : r.is_full ≡ s.full
  pub runs : Runs q r s.call.args s.answers

-- it waits for this answer
pub record MayAnswer (ps : List Checked) (r : Rerun) (s : Standing) (said : Said) : Type 0 where
  pub along : IsAlong ps r s
  pub x : Sent
  pub waits : s.sent ≡ Some x
  pub fit : fits x.op said ≡ true
  pub fitting : Fitting along.q s.call.args s.answers
  pub asks : x.undoing ≡ false → reached_of (stop_at along.q s.call.args s.answers) ≡ Asks x.op

abbrev pub Follows : List Checked → Rerun → Option Standing → Type 0
Follows ps r None = r.is_open ≡ false
Follows ps r (Some s) = IsAlong ps r s

-- it follows the log up to here, and the event was allowed next
pub record MayFollow (ps : List Checked) (r : Rerun) (h : List Event) (e : Event) (t : ℕ) : Type 0 where
  pub good : AllGood ps
  pub legal : Legal ps (e ∷ h)
  pub follows : Follows ps r (standing h t)

-- the event is this transaction's admission
abbrev pub IsAdmission : Event → ℕ → Type 0
IsAdmission (Admit u p args) t = u ≡ t
IsAdmission _ t = ⊥
