-- Which histories are legal.
use Rattle.std.specs.Prelude.{◌≡◌, ℕ, ◌+◌, ◌<◌, ◌≤◌, ◌^◌, Bool, true, false, not, ◌==◌, if◌then◌else◌, List, [], ◌∷◌, Option, Some, None, slice_get}
use Rattle.access_slots.specs.Access.{fits}
use Rattle.access_slots.specs.Held.{Compatible}
use Rattle.access_slots.specs.declared.op.Op.{Op}
use Rattle.access_slots.specs.declared.op.Said.{Said}
use Rattle.semantics.specs.Reach.{AreArguments}
use Rattle.tc_log.specs.declared.event.Event.{Event}
use Rattle.tc_log.specs.declared.event.Event.TheVariants.{Admit, Ask, Answer, Undo, End, Checkpoint}
use Rattle.tc_log.specs.declared.event.Outcome.{Outcome}
use Rattle.tc_log.specs.declared.event.Outcome.TheVariants as outcome
use Rattle.verifier.specs.Checked.{Checked}
use Rattle.history.specs.Calls.{Call, admitted, held, locks_of}
use Rattle.history.specs.Flight.{given}
use Rattle.history.specs.Places.{Each}
use Rattle.transactions.specs.declared.Sent.{Sent}
use Rattle.transactions.specs.Standing.{Standing, standing}
use Rattle.transactions.specs.Reached.{Reached, Asks, Ends, Nowhere, reached, decls}

-- the first write to be undone, if one is left
abbrev pub first_undo : List Op → Option Op
first_undo [] = None
first_undo (o ∷ ops) = Some o

-- a transaction asks no more and is to be undone: an insert found no room, or its procedure answered another value than 0
abbrev pub is_stopped : Bool → Reached → Bool
is_stopped true at = true
is_stopped false (Ends v) = not (v == 0)
is_stopped false (Asks o) = false
is_stopped false Nowhere = false

abbrev pub ending_with : Option Op → Outcome → Option Outcome
ending_with None o = Some o
ending_with (Some w) o = None

-- how a transaction that waits for nothing ends, if it may end
abbrev pub ending : Bool → Option Op → Reached → Option Outcome
ending true left at = ending_with left outcome.NoRoom
ending false left (Ends v) = if v == 0 then Some outcome.Committed else ending_with left (outcome.Aborted v)
ending false left (Asks o) = None
ending false left Nowhere = None

module _ (ps : List Checked) (h : List Event) where
  -- a new transaction of a loaded procedure, compatible with all that is held
  pub record CanAdmit (t : ℕ) (call : Call) : Type 0 where
    pub next : t ≡ admitted h + 1
    pub q : Checked
    pub loaded : slice_get ps call.proc ≡ Some q
    pub takes : AreArguments q.decl call.args
    pub free : Compatible (held (decls ps) h) (locks_of (decls ps) call)

  -- the transaction waits for nothing, and its run has reached this operation
  pub record CanAsk (t n : ℕ) (o : Op) : Type 0 where
    pub s : Standing
    pub is : standing h t ≡ Some s
    pub idle : s.sent ≡ None
    pub not_full : s.full ≡ false
    pub asks : reached ps s ≡ Asks o
    pub next : n ≡ given h + 1

  -- the transaction waits for this number, and the answer fits
  pub record CanAnswer (t n : ℕ) (said : Said) : Type 0 where
    pub s : Standing
    pub is : standing h t ≡ Some s
    pub r : Sent
    pub waits : s.sent ≡ Some r
    pub number : r.number ≡ n
    pub fit : fits r.op said ≡ true

  -- the transaction waits for nothing and is to be undone, and this undoes its last write that stands; at most four tries
  pub record CanUndo (t n : ℕ) (o : Op) : Type 0 where
    pub s : Standing
    pub is : standing h t ≡ Some s
    pub idle : s.sent ≡ None
    pub stopped : is_stopped s.full (reached ps s) ≡ true
    pub top : first_undo s.undo ≡ Some o
    pub few : s.tries < 4
    pub next : n ≡ given h + 1

  -- the transaction waits for nothing, and this is its end
  pub record CanEnd (t : ℕ) (outcome : Outcome) : Type 0 where
    pub s : Standing
    pub is : standing h t ≡ Some s
    pub idle : s.sent ≡ None
    pub ends : ending s.full (first_undo s.undo) (reached ps s) ≡ Some outcome

  -- the log begins with it: nothing came before
  pub record CanBegin (before numbers : ℕ) : Type 0 where
    pub oldest : h ≡ []
    pub few_admitted : before ≤ 2 ^ 62
    pub few_given : numbers ≤ 2 ^ 62

  -- the event may come next
  abbrev pub Allowed : Event → Type 0
  Allowed (Admit t p args) = CanAdmit t (record { proc = p; args = args })
  Allowed (Ask t n o) = CanAsk t n o
  Allowed (Answer t n said) = CanAnswer t n said
  Allowed (Undo t n o) = CanUndo t n o
  Allowed (End t outcome) = CanEnd t outcome
  Allowed (Checkpoint before numbers) = CanBegin before numbers

-- each event was allowed behind the ones before it
abbrev pub Legal : List Checked → List Event → Type 0
Legal ps [] = Unit {0}
Legal ps (e ∷ h) = Allowed ps h e × Legal ps h
