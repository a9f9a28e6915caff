-- What a look through the log, oldest event first, finds to be redone.
use Rattle.std.specs.Prelude.{ℕ, nat_lt, Bool, ◌&&◌, ◌==◌, if◌then◌else◌, List, [], ◌∷◌, Option, Some, None}
use Rattle.access_slots.specs.Locks.{target}
use Rattle.access_slots.specs.declared.op.Op.{Op}
use Rattle.access_slots.specs.declared.op.Said.{Said}
use Rattle.tc_log.specs.declared.event.Event.{Event}
use Rattle.tc_log.specs.declared.event.Event.TheVariants.{Ask, Answer, Undo}
use Rattle.history.specs.Redo.{is_done, or_else}
use Rattle.history.specs.declared.Answered.{Answered}

-- the first answer to the number
abbrev pub said_in : List Event → ℕ → Option Said
said_in [] n = None
said_in (Answer t m said ∷ es) n = if m == n then Some said else said_in es n
-- no other answers one
said_in (_ ∷ es) n = said_in es n

-- the operation is for the data component, under a number above this one
abbrev pub is_sought : ℕ → ℕ → ℕ → Op → Bool
is_sought d after n o = nat_lt after n && ((target o).dc == d)

abbrev pub if_done : ℕ → ℕ → Op → Option Said → Option Answered
if_done t n o None = None
if_done t n o (Some said) = if is_done said then Some (record { txn = t; number = n; op = o; said = said }) else None

-- an operation that was sent, if it is sought and was done by one of the events behind it
abbrev pub done_behind : ℕ → ℕ → ℕ → ℕ → Op → List Event → Option Answered
done_behind d after t n o es = if is_sought d after n o then if_done t n o (said_in es n) else None

-- what is to be redone of the first of these events
abbrev pub first_in : ℕ → ℕ → List Event → Option Answered
first_in d after [] = None
first_in d after (Ask t n o ∷ es) = done_behind d after t n o es
first_in d after (Undo t n o ∷ es) = done_behind d after t n o es
-- no other sends one
first_in d after (_ ∷ es) = None

-- the first operation of the data component above the number that was done
abbrev pub scan : ℕ → ℕ → List Event → Option Answered
scan d after [] = None
scan d after (e ∷ es) = or_else (first_in d after (e ∷ es)) (scan d after es)
