-- Worked rows: the definitions, computed by the prover, on a store for one record and four operations.
use Rattle.std.proofs.Common.{◌≡◌, ℕ, List, ◌∷◌, Some, None, refl}
use Rattle.std.specs.Prelude.{Bool, true, false, Option, replicate}
use Rattle.access_slots.specs.declared.slot.Record.{Record}
use Rattle.access_slots.specs.declared.op.Op.{Op}
use Rattle.access_slots.specs.declared.op.Op.TheVariants.{Read, Insert, Update, Delete}
use Rattle.access_slots.specs.declared.op.Said.{Said}
use Rattle.access_slots.specs.declared.op.Said.TheVariants.{Value, Absent, Done, Duplicate, Missing, NoRoom, Old}
use Rattle.access_slots.specs.declared.op.Wire.{Wire}
use Rattle.access_slots.specs.declared.op.Reply.{Reply}
use Rattle.data_component.specs.Store.{Store, empty, replied, performed, checkpointed, restarted, news_of}

abbrev key : ℕ → Record
key k = record { dc = 0; table = 0; key = k }

-- a value that begins with this byte
abbrev value : ℕ → List ℕ
value first = first ∷ replicate 63 0

abbrev wire : ℕ → ℕ → Op → Wire
wire n low o = record { number = n; low_water = low; incarnation = 0; redo = false; op = o }

abbrev reply : ℕ → Said → Option Reply
reply n said = Some (record { number = n; incarnation = 0; said = said })

abbrev after_none : Store
after_none = empty 1 4

abbrev after_one : Store
after_one = performed after_none (wire 1 0 (Insert (key 5) (value 100)))

abbrev after_two : Store
after_two = performed after_one (wire 2 0 (Insert (key 6) (value 1)))

abbrev after_three : Store
after_three = performed after_two (wire 3 0 (Delete (key 5)))

abbrev after_four : Store
after_four = performed after_three (wire 4 3 (Read (key 6)))

inserted : replied after_none (wire 1 0 (Insert (key 5) (value 100))) ≡ reply 1 (Done None)
inserted = refl

no_room : replied after_one (wire 2 0 (Insert (key 6) (value 1))) ≡ reply 2 NoRoom
no_room = refl

deleted : replied after_two (wire 3 0 (Delete (key 5))) ≡ reply 3 (Done (Some (value 100)))
deleted = refl

-- its first answer again, although there is room by now
no_room_again : replied after_three (wire 2 0 (Insert (key 6) (value 1))) ≡ reply 2 NoRoom
no_room_again = refl

absent : replied after_three (wire 4 3 (Read (key 6))) ≡ reply 4 Absent
absent = refl

old : replied after_four (wire 2 0 (Insert (key 6) (value 1))) ≡ reply 2 Old
old = refl

silent : replied after_four (wire 5 3 (Read (key 6))) ≡ None
silent = refl

marked : (performed after_four (wire 5 3 (Read (key 6)))).mark ≡ 3
marked = refl

updated : replied after_one (wire 2 0 (Update (key 5) (value 7))) ≡ reply 2 (Done (Some (value 100)))
updated = refl

duplicate : replied after_one (wire 2 0 (Insert (key 5) (value 7))) ≡ reply 2 Duplicate
duplicate = refl

missing : replied after_one (wire 2 0 (Update (key 6) (value 7))) ≡ reply 2 Missing
missing = refl

present : replied after_one (wire 2 0 (Read (key 5))) ≡ reply 2 (Value (value 100))
present = refl

-- ---- a checkpoint behind the first operation, a restart behind the third

abbrev back : Store
back = restarted (performed (performed (checkpointed after_one) (wire 2 0 (Insert (key 6) (value 1)))) (wire 3 1 (Delete (key 5))))

abbrev later : Bool → ℕ → ℕ → Op → Wire
later redo n low o = record { number = n; low_water = low; incarnation = 1; redo = redo; op = o }

abbrev said_later : ℕ → Said → Option Reply
said_later n said = Some (record { number = n; incarnation = 1; said = said })

news : news_of back ≡ record { incarnation = 1; mark = 0 }
news = refl

what_was_kept : back.list ≡ after_one.list
what_was_kept = refl

-- an old wire isn't answered, and raises no mark
too_late : replied back (wire 3 1 (Delete (key 5))) ≡ None
too_late = refl

nothing_done : performed back (wire 3 1 (Delete (key 5))) ≡ back
nothing_done = refl

kept_reply : replied back (later true 1 0 (Insert (key 5) (value 100))) ≡ said_later 1 (Done None)
kept_reply = refl

redone : replied back (later true 3 0 (Delete (key 5))) ≡ said_later 3 (Done (Some (value 100)))
redone = refl

-- as many records as the limit are present
no_room_later : replied back (later false 4 0 (Insert (key 7) (value 1))) ≡ said_later 4 NoRoom
no_room_later = refl

redone_beyond : replied back (later true 4 0 (Insert (key 7) (value 1))) ≡ said_later 4 (Done None)
redone_beyond = refl
