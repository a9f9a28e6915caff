-- Numbers in a log, from the Ask or the Undo that gives them out to their Answer.
use Rattle.std.specs.Prelude.{ℕ, ◌+◌, ◌==◌, nat_lt, Bool, true, false, ◌&&◌, not, if◌then◌else◌, List, [], ◌∷◌, Option, Some, None}
use Rattle.std.specs.List.{cons_option, list_any}
use Rattle.access_slots.specs.declared.op.Op.{Op}
use Rattle.access_slots.specs.declared.slot.Record.{Record}
use Rattle.access_slots.specs.declared.slot.Mode.{Mode}
use Rattle.access_slots.specs.declared.slot.Mode.TheVariants as mode
use Rattle.access_slots.specs.Locks.{target, is_read, record_eq}
use Rattle.tc_log.specs.declared.event.Event.{Event}
use Rattle.tc_log.specs.declared.event.Event.TheVariants.{Ask, Answer, Undo}
use Rattle.log_picture.specs.declared.way.Answering.{Answering}
use Rattle.log_picture.specs.declared.way.Way.{Way}

-- the first Answer to number n among events, the first of which is at this place
abbrev pub answering_of : ℕ → ℕ → List Event → Option Answering
answering_of n place [] = None
answering_of n place (Answer t m said ∷ events) =
    if m == n then Some (record { place = place; said = said }) else answering_of n (place + 1) events
answering_of n place (_ ∷ events) = answering_of n (place + 1) events

abbrev pub way_from : ℕ → Bool → Op → ℕ → List Event → Way
way_from n undo o place later = record { number = n; undo = undo; op = o; begin = place; end = answering_of n (place + 1) later }

-- the number that the event at this place gives out for transaction t, before later events
abbrev pub way_of : ℕ → ℕ → Event → List Event → Option Way
way_of t place (Ask u n o) later = if u == t then Some (way_from n false o place later) else None
way_of t place (Undo u n o) later = if u == t then Some (way_from n true o place later) else None
way_of t place _ later = None

abbrev pub answered_before : ℕ → Option Answering → Bool
answered_before from None = false
answered_before from (Some answering) = nat_lt answering.place from

-- it is answered before a place
abbrev pub is_back : ℕ → Way → Bool
is_back from way = answered_before from way.end

abbrev pub unless_back : ℕ → Option Way → Option Way
unless_back from None = None
unless_back from (Some way) = if is_back from way then None else Some way

-- the numbers of transaction t that events give out, the first of which is at this place, but for those that are answered before `from`
abbrev pub ways_from : ℕ → ℕ → ℕ → List Event → List Way
ways_from t from place [] = []
ways_from t from place (e ∷ events) = cons_option (unless_back from (way_of t place e events)) (ways_from t from (place + 1) events)

-- it is of this record; and it writes it
abbrev pub is_of : Record → Way → Bool
is_of r way = record_eq (target way.op) r

abbrev pub is_write_of : Record → Way → Bool
is_write_of r way = is_of r way && not (is_read way.op)

-- one of the operations is of the record
abbrev pub uses : Record → List Way → Bool
uses r ways = list_any (is_of r) ways

-- the mode in which these operations need the record's lock, where one of them is of it
abbrev pub mode_of : List Way → Record → Option Mode
mode_of ways r = if list_any (is_write_of r) ways then Some mode.Write else if uses r ways then Some mode.Read else None
