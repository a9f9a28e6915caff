-- What stops a run.
use Rattle.std.specs.Prelude.{◌≡◌, ◌⊎◌, ℕ, ◌<◌, Bool, true}
use Rattle.worker_pool.specs.Faults.{TriesFit}
use Rattle.run_ground.specs.declared.stop.Stop.{Stop}
use Rattle.run_ground.specs.declared.stop.Stop.TheVariants.{Tries, Workers, NoThread, Memory, Unread, NotKept}

-- when each stops the calls of both lists, or those of the second, with a journal or without one: the tries are looked at before the workers, of
-- whom the first list has one. Memory may run out before that, and something isn't kept only where there is a journal
abbrev pub Stops : (keeps : Bool) → (workers tries : ℕ) → Stop → Type 0
Stops keeps workers tries Tries = (tries ≡ 0) ⊎ (1000 < tries)
Stops keeps workers tries Workers = TriesFit tries × ((workers ≡ 0) ⊎ (64 < workers))
Stops keeps workers tries NoThread = TriesFit tries
Stops keeps workers tries Memory = Unit {0}
Stops keeps workers tries (Unread fault) = ⊥
Stops keeps workers tries (NotKept failure) = (keeps ≡ true) × TriesFit tries

-- what stops them by these numbers alone
abbrev pub IsOutOfRange : (workers tries : ℕ) → Stop → Type 0
IsOutOfRange workers tries Tries = (tries ≡ 0) ⊎ (1000 < tries)
IsOutOfRange workers tries Workers = TriesFit tries × ((workers ≡ 0) ⊎ (64 < workers))
IsOutOfRange workers tries NoThread = ⊥
IsOutOfRange workers tries Memory = ⊥
IsOutOfRange workers tries (Unread fault) = ⊥
IsOutOfRange workers tries (NotKept failure) = ⊥
