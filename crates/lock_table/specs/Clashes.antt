-- Locks that are wanted and locks that are held, and exclude each other.
use Rattle.std.specs.Prelude.{ℕ, Bool, Some, List}
use Rattle.std.specs.List.{list_any}
use Rattle.access_slots.specs.declared.lock.Lock.{Lock}
use Rattle.access_slots.specs.Held.{Held, Wanted, excludes}

-- a wanted lock is on a record that is held, and one of the two is for writing
abbrev pub clashes : List Lock → Wanted → Bool
clashes wanted held = list_any (λ (l : Lock). excludes (Some l.mode) (held l.«record»)) wanted

-- the transaction has a lock that excludes this one
abbrev pub keeps_out : Held → Lock → ℕ → Bool
keeps_out held l t = excludes (Some l.mode) (held t l.«record»)
