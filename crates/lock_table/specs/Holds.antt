-- How each record is held, as the sets of transactions have it.
use Rattle.std.specs.Prelude.{◌≡◌, ℕ, ◌*◌, ◌==◌, ◌<◌, ◌≤◌, true, false, nat_eq, is_some, if◌then◌else◌, List, length, Option, Some, None}
use Rattle.indexmap.specs.IndexMap.{IndexMap, get, spare, IsUnique}
use Rattle.access_slots.specs.declared.slot.Record.{Record}
use Rattle.access_slots.specs.declared.slot.Mode.{Mode}
use Rattle.access_slots.specs.declared.slot.Mode.TheVariants as mode
use Rattle.access_slots.specs.declared.lock.Lock.{Lock}
use Rattle.access_slots.specs.Locks.{record_eq}
use Rattle.access_slots.specs.Held.{Held, excludes}
use Rattle.lock_table.specs.declared.row.Holder.{Holder}
use Rattle.lock_table.specs.declared.row.Neighbours.{Neighbours}
use Rattle.lock_table.specs.declared.maps.Holding.{Holding}
use Rattle.lock_table.specs.Facts.{held_in}
use Rattle.lock_table.specs.Rows.{IsLeast, IsRow, before_at, behind_at}

-- all its holders hold the record in this mode, one alone for writing, and they stand in a row
pub record IsHolding (h : ℕ → Option Mode) (g : Holding) (before behind : ℕ → Option ℕ) : Type 0 where
  pub modes : (t : ℕ) → is_some (h t) ≡ true → h t ≡ Some g.mode
  pub alone : g.mode ≡ mode.Write → g.ends.first ≡ g.ends.last
  pub row : IsRow (λ t. is_some (h t)) g.ends.first g.ends.last before behind

-- nobody holds it
abbrev pub IsFree : (ℕ → Option Mode) → (ℕ → Option ℕ) → (ℕ → Option ℕ) → Type 0
IsFree h before behind = (t : ℕ) → (h t ≡ None) × (before t ≡ None) × (behind t ≡ None)

-- the transactions hold a record in these modes, and it is kept so
abbrev pub IsHeld : (ℕ → Option Mode) → Option Holding → (ℕ → Option ℕ) → (ℕ → Option ℕ) → Type 0
IsHeld h None before behind = IsFree h before behind
IsHeld h (Some g) before behind = IsHolding h g before behind

-- each record
abbrev pub AreHeldBy : {S : Type 0} → Held → IndexMap Record Holding S → (Record → ℕ → Option ℕ) → (Record → ℕ → Option ℕ) → Type 0
AreHeldBy held records before behind = (r : Record) → IsHeld (λ t. held t r) (get record_eq records r) (before r) (behind r)

module _ {S T : Type 0} where
  abbrev pub IsHeldAs : (ℕ → Option Mode) → IndexMap Record Holding S → IndexMap Holder Neighbours T → Record → Type 0
  IsHeldAs h records links r = IsHeld h (get record_eq records r) (before_at links r) (behind_at links r)

  abbrev pub AreHeldAs : Held → IndexMap Record Holding S → IndexMap Holder Neighbours T → Type 0
  AreHeldAs held records links = AreHeldBy held records (before_at links) (behind_at links)

-- what the table keeps
pub record IsKept {S T U : Type 0} (sets : IndexMap ℕ (List Lock) S) (records : IndexMap Record Holding T) (links : IndexMap Holder Neighbours U)
    : Type 0 where
  pub unique : IsUnique nat_eq sets
  pub holds : AreHeldAs (held_in sets.entries) records links

-- there is room for one transaction more, with these locks
abbrev pub HasRoom : {S T U : Type 0} → IndexMap ℕ (List Lock) S → IndexMap Record Holding T → IndexMap Holder Neighbours U → List Lock → Type 0
HasRoom sets records links set = (length set ≤ spare records) × (3 * length set ≤ spare links) × (0 < spare sets)

-- ---- one record's modes

-- the transaction holds it so, and the others as they did
abbrev pub with_mode : (ℕ → Option Mode) → ℕ → Option Mode → ℕ → Option Mode
with_mode h txn m t = if t == txn then m else h t

-- nobody keeps out who wants it so
abbrev pub IsFreeFor : (ℕ → Option Mode) → Mode → Type 0
IsFreeFor h m = (t : ℕ) → excludes (Some m) (h t) ≡ false

-- the least holder that keeps out who wants it so, where there is one
abbrev pub IsLeastInTheWay : (ℕ → Option Mode) → Mode → Option ℕ → Type 0
IsLeastInTheWay h m = IsLeast (λ t. excludes (Some m) (h t))
