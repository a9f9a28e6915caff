-- Transactions in a log, from their Admit to their End. Places are counted from 0, the oldest event's.
use Rattle.std.specs.Prelude.{ℕ, ◌+◌, ◌-◌, ◌^◌, ◌==◌, nat_lt, Bool, false, if◌then◌else◌, List, [], ◌∷◌, Option, Some, None}
use Rattle.std.specs.List.{cons_option}
use Rattle.tc_log.specs.declared.event.Event.{Event}
use Rattle.tc_log.specs.declared.event.Event.TheVariants.{Admit, End}
use Rattle.log_picture.specs.declared.life.Ending.{Ending}
use Rattle.log_picture.specs.declared.life.Life.{Life}

-- the first End of transaction t among events, the first of which is at this place
abbrev pub ending_of : ℕ → ℕ → List Event → Option Ending
ending_of t place [] = None
ending_of t place (End u o ∷ events) = if u == t then Some (record { place = place; outcome = o }) else ending_of t (place + 1) events
ending_of t place (_ ∷ events) = ending_of t (place + 1) events

-- the transaction that the event at this place admits, before later events
abbrev pub life_of : ℕ → Event → List Event → Option Life
life_of place (Admit t p args) later = Some (record { txn = t; proc = p; begin = place; end = ending_of t (place + 1) later })
life_of place _ later = None

abbrev pub ended_before : ℕ → Option Ending → Bool
ended_before from None = false
ended_before from (Some ending) = nat_lt ending.place from

-- it ends before a place
abbrev pub is_over : ℕ → Life → Bool
is_over from life = ended_before from life.end

abbrev pub unless_over : ℕ → Option Life → Option Life
unless_over from None = None
unless_over from (Some life) = if is_over from life then None else Some life

-- the transactions that events admit, but for those that end before the place `from`
abbrev pub lives_from : ℕ → ℕ → List Event → List Life
lives_from from place [] = []
lives_from from place (e ∷ events) = cons_option (unless_over from (life_of place e events)) (lives_from from (place + 1) events)

abbrev pub last_by : Option Ending → ℕ
last_by None = 2 ^ 64 - 1
last_by (Some ending) = ending.place

-- the last place at which it holds its locks; of one that doesn't end, the last that there could be
abbrev pub last_of : Life → ℕ
last_of life = last_by life.end
