-- The keys of open transactions by serial number.
use Rattle.std.specs.Prelude.{◌≡◌, ◌≢◌, ℕ, nat_eq, List, ◌∷◌, Option, Some, None}
use Rattle.std.specs.Map.{lookup}
use Rattle.tc_core.specs.declared.txn_keys.Place.{Place}

-- serial numbers with their keys, and room for so many more
pub record Keys : Type 0 where
  pub entries : List (ℕ × ℕ)
  pub room : ℕ

-- the place of the last one stands before those that are listed
abbrev pub with_last : Option Place → List (ℕ × ℕ) → List (ℕ × ℕ)
with_last None entries = entries
with_last (Some p) entries = (p.serial, p.key) ∷ entries

-- its serial number isn't listed too
abbrev pub IsApart : Option Place → List (ℕ × ℕ) → Type 0
IsApart None entries = Unit {0}
IsApart (Some p) entries = lookup (nat_eq p.serial) entries ≡ None

abbrev pub key_of : Keys → ℕ → Option ℕ
key_of keys t = lookup (nat_eq t) keys.entries

-- the serial number has this key, or none, and the others have theirs
pub record Changes (keys keys' : Keys) (t : ℕ) (key : Option ℕ) : Type 0 where
  pub here : key_of keys' t ≡ key
  pub others : (u : ℕ) → u ≢ t → key_of keys' u ≡ key_of keys u
