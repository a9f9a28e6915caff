-- What a journal has kept behind a run, and why it didn't keep what it was given.
use Rattle.std.specs.Prelude.{◌≡◌, ◌⊎◌, ℕ, List, ◌++◌, reverse}
use Rattle.tc_log.specs.declared.event.Event.{Event}
use Rattle.history.specs.Places.{Begins}
use Rattle.transactions.specs.Legal.{Legal}
use Rattle.tc_core.specs.Core.{Core}
use Rattle.journals.specs.declared.journal.NotKept.{NotKept as Why}
use Rattle.journals.specs.declared.journal.NotKept.TheVariants.{Memory}
use Rattle.worker_pool.specs.Answers.{StaysBut}

-- behind whatever the journal had kept before it has kept what the log has behind the first one, the oldest event first. A log is read
-- with its newest event first
pub record HasKept {K : Type 0} (has : K → List Event → Type 0) (before : List Event → Type 0) (journal : K)
    (first now : List Event) : Type 0 where
  pub behind : List Event
  pub log : now ≡ reverse behind ++ first
  pub kept : (events : List Event) → before events → has journal (events ++ behind)

-- at some time a journal has kept these events
pub record WasKept {K : Type 0} (has : K → List Event → Type 0) (events : List Event) : Type 0 where
  pub journal : K
  pub kept : has journal events

-- what happened before is still there, the log is legal, and procedures and all else are those handed in
pub record HasGoneOn (start now : Core) : Type 0 where
  pub stays : StaysBut start now
  pub begins : Begins start.events now.events
  pub legal : Legal now.procs now.events

-- a crash left these bytes of a journal that had kept, behind what it had before, a beginning of what a state of the run had in its log, while
-- it was keeping more of that
pub record IsLeftOfRun (leaves : List Event → List Event → List ℕ → Type 0) (before : List Event) (start : Core) (left : List ℕ)
    : Type 0 where
  pub kept : List Event
  pub more : List Event
  pub then : Core
  pub gone_on : HasGoneOn start then
  pub log : Begins (reverse (kept ++ more) ++ start.events) then.events
  pub is_left : leaves (before ++ kept) more left

-- why something wasn't kept: the journal said so, in the call that left it as it is, or there was no memory for copies of the events
abbrev pub IsUnkept : {K : Type 0} → (K → Why → K → Type 0) → K → Why → Type 0
IsUnkept {K} fails journal why = ((was : K) × fails was why journal) ⊎ (why ≡ Memory)
