-- When the locks of a call can be granted beside those that are held (Lomet, Fekete, Weikum, Zwilling, CIDR 2009: no conflicting
-- operations are at work together).
use Rattle.std.specs.Prelude.{◌≡◌, ℕ, Bool, true, false, ◌<◌, Option, Some, None}
use Rattle.access_slots.specs.declared.slot.Record.{Record}
use Rattle.access_slots.specs.declared.slot.Mode.{Mode}
use Rattle.access_slots.specs.declared.slot.Mode.TheVariants as mode
use Rattle.access_slots.specs.Locks.{record_less}

-- who holds which record in which mode
abbrev pub Held : Type 0
Held = ℕ → Record → Option Mode

-- which record is wanted in which mode
abbrev pub Wanted : Type 0
Wanted = Record → Option Mode

-- two locks on one record exclude each other, unless both are for reading
abbrev pub excludes : Option Mode → Option Mode → Bool
excludes None held = false
excludes (Some wanted) None = false
excludes (Some mode.Read) (Some mode.Read) = false
excludes (Some mode.Read) (Some mode.Write) = true
excludes (Some mode.Write) (Some held) = true

-- the transaction stands in the way at this record
abbrev pub in_the_way : Held → Wanted → Record → ℕ → Bool
in_the_way held wanted r t = excludes (wanted r) (held t r)

-- nobody stands in the way
abbrev pub Compatible : Held → Wanted → Type 0
Compatible held wanted = (r : Record) (t : ℕ) → in_the_way held wanted r t ≡ false

-- this is the least record in the way, and its least holder
pub record IsFirstInTheWay (held : Held) (wanted : Wanted) (r : Record) (t : ℕ) : Type 0 where
  pub stands : in_the_way held wanted r t ≡ true
  pub least_record : (q : Record) (u : ℕ) → record_less q r ≡ true → in_the_way held wanted q u ≡ false
  pub least_holder : (u : ℕ) → u < t → in_the_way held wanted r u ≡ false
