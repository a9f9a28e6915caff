-- What a crash leaves of the journal of a run.
use Rattle.std.specs.Prelude.{◌≡◌, ◌≤◌, ◌⊎◌, ℕ, List, ◌++◌, reverse}
use Rattle.tc_log.specs.declared.event.Event.{Event}
use Rattle.tc_core.specs.Core.{Core}
use Rattle.worker_pool.specs.Journals.{HasGoneOn, IsLeftOfRun}
use Rattle.worker_pool.specs.Joining.Handing.{events_of}

-- a state of the run had these batches in its log, behind the first one
pub record HasStood (start : Core) (batches : List (List Event)) : Type 0 where
  pub then : Core
  pub gone_on : HasGoneOn start then
  pub log : then.events ≡ reverse (events_of batches) ++ start.events

-- whatever a crash at any moment of the run left of a journal that had these events before it
pub record LeavesBehind {K : Type 0} (moment : K → ℕ) (left_since : K → ℕ → List ℕ → Type 0) (start : Core) (since : ℕ)
    (past : ℕ → List ℕ → Type 0) (leaves : List Event → List Event → List ℕ → Type 0) (before : List Event) (journal : K) : Type 0 where
  pub later : since ≤ moment journal
  pub each : (left : List ℕ) → left_since journal since left → IsLeftOfRun leaves before start left
  pub earlier : (t : ℕ) (left : List ℕ) → t ≤ since → left_since journal t left → past t left ⊎ IsLeftOfRun leaves before start left
