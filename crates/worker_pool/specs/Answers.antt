-- What the answer to a call says of the log. A log is read with its newest event first, and places count from the oldest one.
use Rattle.std.specs.Prelude.{◌≡◌, ◌+◌, ◌*◌, ◌^◌, ◌<◌, ◌≤◌, ◌∷◌, ◌++◌, ℕ, List, [], Bool, true, false, length, Option, Some, None}
use Rattle.access_slots.specs.Held.{excludes, IsFirstInTheWay}
use Rattle.tc_log.specs.declared.event.Event.{Event}
use Rattle.tc_log.specs.declared.event.Event.TheVariants.{Admit, Ask, Undo, End}
use Rattle.tc_log.specs.declared.event.Outcome.{Outcome}
use Rattle.tc_log.specs.declared.event.Outcome.TheVariants as outcome
use Rattle.history.specs.Calls.{Call, admitted, held, locks_of}
use Rattle.history.specs.Flight.{given}
use Rattle.history.specs.Places.{StandsAt, Begins}
use Rattle.transactions.specs.Reached.{decls}
use Rattle.lock_table.specs.declared.table.Busy.{Busy}
use Rattle.tc_core.specs.Core.{Core}
use Rattle.tc_core.specs.Admission.{Takes, IsRefused}
use Rattle.tc_core.specs.Doubts.{given_up_behind}
use Rattle.tc_core.specs.Blocked as stranded
use Rattle.tc_core.specs.declared.state.Refusal.{Refusal}
use Rattle.tc_core.specs.declared.state.Refusal.TheVariants as refusal
use Rattle.worker_pool.specs.declared.answer.Answer.{Answer}
use Rattle.worker_pool.specs.declared.answer.Answer.TheVariants.{Committed, Aborted, NoRoom, InDoubt, Blocked, Refused}

-- ---- places

-- the place of the end that an answer names
abbrev pub place_of : Answer → Option ℕ
place_of (Committed p) = Some p
place_of (Aborted v p) = Some p
place_of (NoRoom p) = Some p
place_of (InDoubt n) = None
place_of (Blocked b) = None
place_of (Refused r) = None

abbrev pub is_some : Option ℕ → Bool
is_some None = false
is_some (Some p) = true

abbrev pub has_place : Answer → Bool
has_place a = is_some (place_of a)

-- how a transaction that ended so is told
abbrev pub answer_of : Outcome → ℕ → Answer
answer_of outcome.Committed p = Committed p
answer_of (outcome.Aborted v) p = Aborted v p
answer_of outcome.NoRoom p = NoRoom p

-- ---- events behind the first log

pub record StandsBehind (first h : List Event) (place : ℕ) (e : Event) : Type 0 where
  pub behind : length first ≤ place
  pub stands : StandsAt h place e

-- the call was admitted there as this transaction
pub record IsAdmitted (first h : List Event) (c : Call) (t : ℕ) : Type 0 where
  pub place : ℕ
  pub at : StandsBehind first h place (Admit t c.proc c.args)

-- the transaction asked there under this number, or undid a write under it
pub data Sends (first h : List Event) (t n : ℕ) : Type 0 where
  Asks : (place : ℕ) (o : _) → StandsBehind first h place (Ask t n o) → Sends first h t n
  Undoes : (place : ℕ) (o : _) → StandsBehind first h place (Undo t n o) → Sends first h t n

-- ---- what each answer says of a call, which was admitted as this transaction or not at all

module _ (start : Core) (h : List Event) (c : Call) where
  -- its transaction ended so, and the end stands at this place
  pub record IsEnded (txn : Option ℕ) (place : ℕ) (o : Outcome) : Type 0 where
    pub t : ℕ
    pub own : txn ≡ Some t
    pub takes : Takes start c
    pub admitted : IsAdmitted start.events h c t
    pub ended : StandsBehind start.events h place (End t o)

  -- its transaction sent an operation under this number
  pub record IsInDoubt (txn : Option ℕ) (n : ℕ) : Type 0 where
    pub t : ℕ
    pub own : txn ≡ Some t
    pub takes : Takes start c
    pub admitted : IsAdmitted start.events h c t
    pub sent : Sends start.events h t n

  -- the numbers given, with five for each of 4,096 slots, for each call admitted and one more, are too many
  abbrev pub TooManyNumbers : Type 0
  TooManyNumbers = 2 ^ 62 < given h + 20480 * admitted h + 20480

  -- the procedure isn't there, or takes another number of arguments; it is never refused because another holds a lock
  abbrev pub RefusalFits : Refusal → Type 0
  RefusalFits refusal.NoProcedure = IsRefused start c refusal.NoProcedure
  RefusalFits refusal.ArgumentCount = IsRefused start c refusal.ArgumentCount
  RefusalFits (refusal.Busy b) = ⊥
  RefusalFits refusal.NumbersSpent = Takes start c × TooManyNumbers
  RefusalFits refusal.Memory = Takes start c

-- ---- moments of a run

-- nothing of the state changes but what happened, which numbers were given up, and what is known of data components
abbrev pub StaysBut : Core → Core → Type 0
StaysBut start c = c ≡ record start { events = c.events; given_up = c.given_up; sites = c.sites }

-- the numbers given up, in the order in which they were, begin with others
pub record BeginWith (first numbers : List ℕ) : Type 0 where
  pub later : List ℕ
  pub is : numbers ≡ first ++ later

-- of numbers that were given up, those that these events don't answer
abbrev pub still_given_up : List Event → List ℕ → List ℕ
still_given_up [] ns = ns
still_given_up (e ∷ es) ns = given_up_behind e (still_given_up es ns)

-- the run came from the first state to this one, and from there to the last one: what was given up stays so until it is answered
pub record IsMoment (start then now : Core) : Type 0 where
  pub stays : StaysBut start then
  pub begins : Begins start.events then.events
  pub goes_on : Begins then.events now.events
  pub given_up : BeginWith (still_given_up goes_on.later then.given_up) now.given_up

-- ---- what stands at the end of a run

module _ (start now : Core) (c : Call) where
  -- at one moment others stood in the way of the call, each of them in doubt or stuck, and this was the least record in the way and
  -- its least holder. The holder was admitted, and its call's lock on the record and this call's exclude each other
  pub record WasBlocked (txn : Option ℕ) (b : Busy) : Type 0 where
    pub waits : txn ≡ None
    pub takes : Takes start c
    pub then : Core
    pub moment : IsMoment start then now
    pub blocked : stranded.IsBlocked then c
    pub first : IsFirstInTheWay (held (decls then.procs) then.events) (locks_of (decls then.procs) c) b.name b.holder
    pub other : Call
    pub place : ℕ
    pub admitted : StandsAt now.events place (Admit b.holder other.proc other.args)
    pub excluded : excludes (locks_of (decls start.procs) c b.name) (locks_of (decls start.procs) other b.name) ≡ true

  -- what a refusal of an admission says
  abbrev pub AdmitRefusalFits : Refusal → Type 0
  AdmitRefusalFits refusal.NoProcedure = RefusalFits start now.events c refusal.NoProcedure
  AdmitRefusalFits refusal.ArgumentCount = RefusalFits start now.events c refusal.ArgumentCount
  AdmitRefusalFits (refusal.Busy b) = IsRefused now c (refusal.Busy b)
  AdmitRefusalFits refusal.NumbersSpent = RefusalFits start now.events c refusal.NumbersSpent
  AdmitRefusalFits refusal.Memory = RefusalFits start now.events c refusal.Memory

  abbrev pub AnswerFits : Answer → Option ℕ → Type 0
  AnswerFits (Committed p) txn = IsEnded start now.events c txn p outcome.Committed
  AnswerFits (Aborted v p) txn = IsEnded start now.events c txn p (outcome.Aborted v)
  AnswerFits (NoRoom p) txn = IsEnded start now.events c txn p outcome.NoRoom
  AnswerFits (InDoubt n) txn = IsInDoubt start now.events c txn n
  AnswerFits (Blocked b) txn = WasBlocked txn b
  AnswerFits (Refused r) txn = (txn ≡ None) × RefusalFits start now.events c r
