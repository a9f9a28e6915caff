-- How a row of locks takes one more: what `resolve` does slot by slot, and not what a set of locks is.
use Rattle.std.specs.Prelude.{slice_get, slice_set, ℕ, Bool, false, if◌then◌else◌, List, [], ◌∷◌, Option, Some, None}
use Rattle.access_slots.specs.declared.slot.Record.{Record}
use Rattle.access_slots.specs.declared.slot.Mode.{Mode}
use Rattle.access_slots.specs.declared.lock.Lock.{Lock}
use Rattle.access_slots.specs.Locks.{record_eq, record_less, greater}

abbrev pub lock : Record → Mode → Lock
lock r m = record { «record» = r; mode = m }

-- these locks and one more, or the greater mode where the record is locked
abbrev pub added : Record → Mode → List Lock → List Lock
added r m [] = lock r m ∷ []
added r m (l ∷ locks) =
    if record_less l.«record» r then l ∷ added r m locks else
    if record_eq l.«record» r then lock l.«record» (greater l.mode m) ∷ locks else lock r m ∷ l ∷ locks

-- whether this lock, where there is one, is on the record
abbrev pub locked_at : Option Lock → Record → Bool
locked_at None r = false
locked_at (Some l) r = record_eq l.«record» r

-- the lock at this place with the greater mode
abbrev pub raised_by : Option Lock → List Lock → ℕ → Mode → List Lock
raised_by None locks place m = locks
raised_by (Some l) locks place m = slice_set locks place (lock l.«record» (greater l.mode m))

abbrev pub raised : List Lock → ℕ → Mode → List Lock
raised locks place m = raised_by (slice_get locks place) locks place m
