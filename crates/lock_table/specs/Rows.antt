-- The holders of a record in a row, by rising number.
use Rattle.std.specs.Prelude.{◌≡◌, ℕ, Bool, true, false, ◌<◌, ◌≤◌, ◌&&◌, ◌||◌, not, ◌==◌, Option, Some, None}
use Rattle.indexmap.specs.IndexMap.{IndexMap, get}
use Rattle.access_slots.specs.declared.slot.Record.{Record}
use Rattle.access_slots.specs.Locks.{record_eq}
use Rattle.lock_table.specs.declared.row.Holder.{Holder}
use Rattle.lock_table.specs.declared.row.Neighbours.{Neighbours}

-- ---- numbers that pass a test

-- the least, where there is one
abbrev pub IsLeast : (ℕ → Bool) → Option ℕ → Type 0
IsLeast p None = (t : ℕ) → p t ≡ false
IsLeast p (Some t) = (p t ≡ true) × ((u : ℕ) → u < t → p u ≡ false)

-- the greatest below this number, where there is one
abbrev pub IsPrevious : (ℕ → Bool) → ℕ → Option ℕ → Type 0
IsPrevious p t None = (u : ℕ) → u < t → p u ≡ false
IsPrevious p t (Some n) = (n < t) × (p n ≡ true) × ((u : ℕ) → n < u → u < t → p u ≡ false)

-- the least above it
abbrev pub IsNext : (ℕ → Bool) → ℕ → Option ℕ → Type 0
IsNext p t None = (u : ℕ) → t < u → p u ≡ false
IsNext p t (Some n) = (t < n) × (p n ≡ true) × ((u : ℕ) → t < u → u < n → p u ≡ false)

-- they have these ends, and each has these neighbours; no other number has any
pub record IsRow (p : ℕ → Bool) (first last : ℕ) (before behind : ℕ → Option ℕ) : Type 0 where
  pub first_in : p first ≡ true
  pub last_in : p last ≡ true
  pub least : (t : ℕ) → p t ≡ true → first ≤ t
  pub greatest : (t : ℕ) → p t ≡ true → t ≤ last
  pub previous : (t : ℕ) → p t ≡ true → IsPrevious p t (before t)
  pub next : (t : ℕ) → p t ≡ true → IsNext p t (behind t)
  pub none : (t : ℕ) → p t ≡ false → (before t ≡ None) × (behind t ≡ None)

abbrev pub with_txn : (ℕ → Bool) → ℕ → ℕ → Bool
with_txn p t u = (t == u) || p u

abbrev pub without_txn : (ℕ → Bool) → ℕ → ℕ → Bool
without_txn p t u = not (t == u) && p u

-- ---- neighbours as they are kept

abbrev pub holder : Record → ℕ → Holder
holder r t = record { name = r; txn = t }

abbrev pub holder_eq : Holder → Holder → Bool
holder_eq a b = record_eq a.name b.name && (a.txn == b.txn)

abbrev pub before_in : Option Neighbours → Option ℕ
before_in None = None
before_in (Some n) = n.before

abbrev pub behind_in : Option Neighbours → Option ℕ
behind_in None = None
behind_in (Some n) = n.behind

module _ {S : Type 0} (links : IndexMap Holder Neighbours S) where
  -- the holder of the record before this one
  abbrev pub before_at : Record → ℕ → Option ℕ
  before_at r t = before_in (get holder_eq links (holder r t))

  -- and behind it
  abbrev pub behind_at : Record → ℕ → Option ℕ
  behind_at r t = behind_in (get holder_eq links (holder r t))

-- this is the place of the holder, where there is one
abbrev pub is_at : Option ℕ → Record → Record → ℕ → Bool
is_at None name r t = false
is_at (Some u) name r t = holder_eq (holder name u) (holder r t)

abbrev pub IsRowOf : {S : Type 0} → (ℕ → Bool) → ℕ → ℕ → IndexMap Holder Neighbours S → Record → Type 0
IsRowOf p first last links r = IsRow p first last (before_at links r) (behind_at links r)

-- the end of a row that a number leaves which had these neighbours
abbrev pub end_left : ℕ → Option ℕ → Option ℕ → ℕ
end_left end None (Some n) = n
end_left end None None = end
end_left end (Some m) inwards = end
