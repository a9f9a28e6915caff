-- The list of what a data component has performed, the newest first, behind the rows with which it began, and what both say of records
-- (Lomet, Fekete, Weikum, Zwilling, CIDR 2009: the data component performs each request once).
use Rattle.std.specs.Prelude.{◌≡◌, ℕ, ◌+◌, ◌-◌, Bool, true, false, ◌||◌, ◌==◌, nat_lt, nat_le, if◌then◌else◌, List, [], ◌∷◌, length, Option, Some, None}
use Rattle.std.specs.List.{list_all}
use Rattle.access_slots.specs.declared.slot.Record.{Record}
use Rattle.access_slots.specs.declared.op.Op.{Op}
use Rattle.access_slots.specs.declared.op.Op.TheVariants.{Read, Insert, Update, Delete}
use Rattle.access_slots.specs.declared.op.Said.{Said}
use Rattle.access_slots.specs.declared.op.Said.TheVariants.{Value, Absent, Done, Duplicate, Missing, NoRoom}
use Rattle.access_slots.specs.Locks.{record_eq, target}
use Rattle.data_component.specs.Sorted.{Rows, row_of}

-- a number, its operation and what was said
abbrev pub Performed : Type 0
Performed = ℕ × Op × Said

abbrev pub RecordValue : Type 0
RecordValue = Option (List ℕ)

-- ---- what the last operation answered Done left

-- what an operation that was answered so leaves of its record, which was so before
abbrev pub left : Op → Said → RecordValue → RecordValue
left (Insert r v) (Done former) was = Some v
left (Update r v) (Done former) was = Some v
left (Delete r) (Done former) was = None
left _ _ was = was

-- the record's value, where it is present, over a table of those that there were
abbrev pub value_over : (Record → RecordValue) → List Performed → Record → RecordValue
value_over base [] r = base r
value_over base (e ∷ list) r = if record_eq (target e.1) r then left e.1 e.2 (value_over base list r) else value_over base list r

-- behind the rows with which the list began
abbrev pub value_in : Rows → List Performed → Record → RecordValue
value_in base list r = value_over (row_of base) list r

-- where the list began with no rows
abbrev pub value_of : List Performed → Record → RecordValue
value_of list r = value_in [] list r

-- how many records are present after an operation that was answered so
abbrev pub counted : Op → Said → ℕ → ℕ
counted (Insert r v) (Done former) n = n + 1
counted (Delete r) (Done former) n = n - 1
counted _ _ n = n

-- how many records are present
abbrev pub count : Rows → List Performed → ℕ
count base [] = length base
count base (e ∷ list) = counted e.1 e.2 (count base list)

-- ---- what is said to an operation

abbrev pub said_to_read : RecordValue → Said
said_to_read None = Absent
said_to_read (Some v) = Value v

abbrev pub said_to_insert : RecordValue → Bool → Said
said_to_insert (Some v) has_room = Duplicate
said_to_insert None true = Done None
said_to_insert None false = NoRoom

-- to an update or a delete
abbrev pub said_to_change : RecordValue → Said
said_to_change None = Missing
said_to_change (Some v) = Done (Some v)

-- to an operation on a record with this value, where a further record has room or not
abbrev pub said_to : Bool → RecordValue → Op → Said
said_to has_room value (Read r) = said_to_read value
said_to has_room value (Insert r v) = said_to_insert value has_room
said_to has_room value (Update r v) = said_to_change value
said_to has_room value (Delete r) = said_to_change value

abbrev pub answer : Bool → Rows → List Performed → Op → Said
answer has_room base list o = said_to has_room (value_in base list (target o)) o

-- a further record has room where fewer than the limit are present, and always for an operation that is redone
abbrev pub has_room : ℕ → Bool → Rows → List Performed → Bool
has_room limit redo base list = redo || nat_lt (count base list) limit

-- ---- numbers

-- what was said to the number, where it was performed
abbrev pub said_under : List Performed → ℕ → Option Said
said_under [] n = None
said_under (e ∷ list) n = if e.0 == n then Some e.2 else said_under list n

-- the answer is what the list before it gives, to the operation itself or as it is redone
abbrev pub IsAnswerBehind : ℕ → Rows → List Performed → Op → Said → Type 0
IsAnswerBehind limit base list o said = (redo : Bool) × (said ≡ answer (has_room limit redo base list) base list o)

-- no number stands twice, and each answer is what the list before it gives
abbrev pub IsRight : ℕ → Rows → List Performed → Type 0
IsRight limit base [] = Unit {0}
IsRight limit base (e ∷ list) = (said_under list e.0 ≡ None) × IsAnswerBehind limit base list e.1 e.2 × IsRight limit base list

-- each number is at most this one
abbrev pub all_at_most : ℕ → List Performed → Bool
all_at_most n list = list_all (λ (e : Performed). nat_le e.0 n) list
