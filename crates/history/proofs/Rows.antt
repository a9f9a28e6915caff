-- Worked rows: the definitions, computed by the prover, on histories with known answers.
use Rattle.std.proofs.Common.{◌≡◌, ℕ, true, false, List, [], ◌∷◌, Some, None, refl}
use Rattle.std.specs.Prelude.{replicate}
use Rattle.access_slots.specs.declared.slot.Record.{Record}
use Rattle.access_slots.specs.declared.slot.Mode.{Mode}
use Rattle.access_slots.specs.declared.slot.Mode.TheVariants as mode
use Rattle.access_slots.specs.declared.slot.Slot.{Slot}
use Rattle.access_slots.specs.declared.slot.Key.TheVariants.{Arg}
use Rattle.access_slots.specs.declared.op.Op.TheVariants as op
use Rattle.access_slots.specs.declared.op.Said.TheVariants as said
use Rattle.access_slots.specs.Declaration.{Declaration}
use Rattle.access_slots.specs.Held.{in_the_way}
use Rattle.tc_log.specs.declared.event.Event.{Event}
use Rattle.tc_log.specs.declared.event.Event.TheVariants.{Admit, Ask, Answer, Undo, End}
use Rattle.tc_log.specs.declared.event.Outcome.TheVariants as outcome
use Rattle.history.specs.Calls.{held, locks_of}
use Rattle.history.specs.Flight.{given, is_open, open_numbers, low_water}

five : Record
five = record { dc = 0; table = 0; key = 5 }

-- a value that begins with this byte
value : ℕ → List ℕ
value first = first ∷ replicate 63 0

slot : Mode → Slot
slot m = record { mode = m; dc = 0; table = 0; key = Arg 0 }

-- `put` of two arguments writes the record that the first names; `get` of one reads it
procedures : List Declaration
procedures = record { args = 2; slots = slot mode.Write ∷ [] } ∷ record { args = 1; slots = slot mode.Read ∷ [] } ∷ []

-- ---- numbers 1 and 2, answered in the other order

asked_twice : List Event
asked_twice = Ask 2 2 (op.Read five) ∷ Ask 1 1 (op.Read five) ∷ []

first_mark : low_water (Answer 2 2 said.Absent ∷ asked_twice) ≡ 0
unfolding asked_twice
first_mark = refl

second_mark : low_water (Answer 1 1 said.Absent ∷ Answer 2 2 said.Absent ∷ asked_twice) ≡ 2
unfolding asked_twice
second_mark = refl

first_open : open_numbers (Answer 2 2 said.Absent ∷ asked_twice) ≡ 1 ∷ []
unfolding asked_twice
first_open = refl

-- ---- `put 5 100`, asked for

asked_for : List Event
asked_for = Ask 1 1 (op.Insert five (value 100)) ∷ Admit 1 0 (5 ∷ 100 ∷ []) ∷ []

insert_open : is_open asked_for 1 ≡ true
unfolding asked_for
insert_open = refl

insert_held : held procedures asked_for 1 five ≡ Some mode.Write
unfolding asked_for procedures slot five
insert_held = refl

-- answered: it is held on
answered_held : held procedures (Answer 1 1 (said.Done None) ∷ asked_for) 1 five ≡ Some mode.Write
unfolding asked_for procedures slot five
answered_held = refl

-- answered and ended: nothing is held, and the mark is 1
ended : List Event
ended = End 1 outcome.Committed ∷ Answer 1 1 (said.Done None) ∷ asked_for

nothing_held : held procedures ended 1 five ≡ None
unfolding asked_for ended procedures slot five
nothing_held = refl

mark_behind : low_water ended ≡ 1
unfolding asked_for ended
mark_behind = refl

-- ---- two readers of one record; a third, and a writer

two_readers : List Event
two_readers = Admit 2 1 (5 ∷ []) ∷ Admit 1 1 (5 ∷ []) ∷ []

third_reader : in_the_way (held procedures two_readers) (locks_of procedures (record { proc = 1; args = 5 ∷ [] })) five 1 ≡ false
unfolding two_readers procedures slot five
third_reader = refl

writer : in_the_way (held procedures two_readers) (locks_of procedures (record { proc = 0; args = 5 ∷ 1 ∷ [] })) five 1 ≡ true
unfolding two_readers procedures slot five
writer = refl

-- ---- an abort: its undo has a number of its own

undoing : List Event
undoing =
    Undo 2 4 (op.Update five (value 100)) ∷ Answer 2 3 (said.Done (Some (value 100))) ∷ Ask 2 3 (op.Update five (value 7))
    ∷ Answer 2 2 (said.Value (value 100)) ∷ Ask 2 2 (op.Read five) ∷ Admit 2 1 (5 ∷ []) ∷ ended

undo_given : given undoing ≡ 4
unfolding undoing ended asked_for
undo_given = refl

undo_open : open_numbers undoing ≡ 4 ∷ []
unfolding undoing ended asked_for
undo_open = refl

undo_mark : low_water undoing ≡ 3
unfolding undoing ended asked_for
undo_mark = refl
