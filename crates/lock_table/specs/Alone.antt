-- One transaction that holds all that is held: its set is the one that is ready, and no map knows of it.
use Rattle.std.specs.Prelude.{◌≡◌, ℕ, true, is_some, List, [], ◌∷◌, Option, Some, None}
use Rattle.access_slots.specs.declared.lock.Lock.{Lock}
use Rattle.lock_table.specs.Facts.{Sets, Table}

-- the set that is there is the transaction's
abbrev pub set_of : ℕ → Option (List Lock) → Sets
set_of t None = []
set_of t (Some set) = (t, set) ∷ []

-- what callers see, where this transaction is alone, or none is
abbrev pub seen : Option ℕ → Table → Table
seen None maps = maps
seen (Some t) maps = record { sets = set_of t maps.reserved; reserved = None }

-- beside one that is alone the maps have the set that is its own
abbrev pub IsAlone : Option ℕ → Table → Type 0
IsAlone None maps = Unit {0}
IsAlone (Some t) maps = (maps.sets ≡ []) × (is_some maps.reserved ≡ true)
