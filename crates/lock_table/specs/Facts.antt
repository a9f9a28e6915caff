-- A table of locks, as facts: who holds which record in which mode, and which set is ready to be granted. Contracts read the
-- sets of transactions by `held_by` alone: how the table keeps them is its own matter.
use Rattle.std.specs.Prelude.{◌≡◌, ℕ, ◌==◌, nat_eq, if◌then◌else◌, List, Option, Some, None}
use Rattle.std.specs.Map.{lookup}
use Rattle.access_slots.specs.declared.slot.Record.{Record}
use Rattle.access_slots.specs.declared.slot.Mode.{Mode}
use Rattle.access_slots.specs.declared.lock.Lock.{Lock}
use Rattle.access_slots.specs.Locks.{mode_in}
use Rattle.access_slots.specs.Held.{Held, Wanted}

-- the locks of each transaction, under its number
abbrev pub Sets : Type 0
Sets = List (ℕ × List Lock)

pub record Table : Type 0 where
  pub sets : Sets
  pub reserved : Option (List Lock)

-- the mode in which the set that is there has the record, where it has
abbrev pub mode_among : Option (List Lock) → Record → Option Mode
mode_among None r = None
mode_among (Some set) r = mode_in set r

-- the mode in which the transaction has the record in its set, where it has
abbrev pub held_in : Sets → Held
held_in sets t r = mode_among (lookup (nat_eq t) sets) r

-- the mode in which the transaction holds the record, where it does
abbrev pub held_by : Table → Held
held_by table = held_in table.sets

-- this is what is held
abbrev pub AreHeld : Table → Held → Type 0
AreHeld table held = (t : ℕ) (r : Record) → held_by table t r ≡ held t r

-- the transaction holds these locks, and the others what they held
abbrev pub granted : Held → ℕ → Wanted → Held
granted held txn wanted t r = if t == txn then wanted r else held t r

-- the transaction holds nothing, and the others what they held
abbrev pub released : Held → ℕ → Held
released held txn t r = if t == txn then None else held t r

abbrev pub nobody : Held
nobody t r = None

abbrev pub HoldsNothing : Held → ℕ → Type 0
HoldsNothing held txn = (r : Record) → held txn r ≡ None
