-- Why a run has no report.
use Rattle.std.specs.Prelude.{ℕ, ◌<◌, ◌≤◌, ◌⊎◌, ◌≡◌, Bool, true}
use Rattle.tc_core.specs.Core.{Core}
use Rattle.journals.specs.declared.journal.NotKept.{NotKept as Why}
use Rattle.worker_pool.specs.declared.running.RunFault.{RunFault}
use Rattle.worker_pool.specs.declared.running.RunFault.TheVariants.{Workers, Tries, Memory, NoThread, NotKept}
use Rattle.worker_pool.specs.Journals.{HasGoneOn, IsUnkept}

-- the state that is handed back
abbrev pub state_of : RunFault → Core
state_of (Workers s) = s
state_of (Tries s) = s
state_of (Memory s) = s
state_of (NoThread s) = s
state_of (NotKept why s) = s

abbrev pub WorkersFit : ℕ → Type 0
WorkersFit workers = (1 ≤ workers) × (workers ≤ 64)

abbrev pub TriesFit : ℕ → Type 0
TriesFit tries = (1 ≤ tries) × (tries ≤ 1000)

abbrev pub InRange : ℕ → ℕ → Type 0
InRange workers tries = WorkersFit workers × TriesFit tries

-- when each fault comes, and what is known of the state that is handed back: where no call was begun it is the one that was handed in. Something
-- isn't kept only where the journal keeps anything
abbrev pub FaultFits : Core → Bool → ℕ → ℕ → RunFault → Type 0
FaultFits start keeps workers tries (Workers s) = (s ≡ start) × ((workers ≡ 0) ⊎ (64 < workers))
FaultFits start keeps workers tries (Tries s) = (s ≡ start) × WorkersFit workers × ((tries ≡ 0) ⊎ (1000 < tries))
FaultFits start keeps workers tries (Memory s) = (s ≡ start) × InRange workers tries
FaultFits start keeps workers tries (NoThread s) = (s ≡ start) × InRange workers tries
FaultFits start keeps workers tries (NotKept why s) = (keeps ≡ true) × InRange workers tries × HasGoneOn start s

-- what is known of the journal that is handed back
abbrev pub IsUnkeptBy : {K : Type 0} → (K → Why → K → Type 0) → K → RunFault → Type 0
IsUnkeptBy fails journal (Workers s) = Unit {0}
IsUnkeptBy fails journal (Tries s) = Unit {0}
IsUnkeptBy fails journal (Memory s) = Unit {0}
IsUnkeptBy fails journal (NoThread s) = Unit {0}
IsUnkeptBy fails journal (NotKept why s) = IsUnkept fails journal why
