-- Which answer fits which operation, and which is NoRoom: each case by itself.
use Rattle.std.proofs.Common.{◌≡◌, ℕ, true, false, List, [], ◌∷◌, Some, None, refl}
use Rattle.access_slots.specs.declared.slot.Record.{Record}
use Rattle.access_slots.specs.declared.op.Op.{Op}
use Rattle.access_slots.specs.declared.op.Op.TheVariants.{Read, Insert, Update, Delete}
use Rattle.access_slots.specs.declared.op.Said.TheVariants.{Value, Absent, Done, Duplicate, Missing, NoRoom, Old}
use Rattle.access_slots.specs.Access.{fits, is_no_room}

abbrev row : Record
row = record { dc = 1; table = 2; key = 3 }

abbrev value : List ℕ
value = 7 ∷ []

-- ---- read

read_value : fits (Read row) (Value value) ≡ true
read_value = refl

read_absent : fits (Read row) Absent ≡ true
read_absent = refl

read_done : fits (Read row) (Done None) ≡ false
read_done = refl

read_done_with_a_former_value : fits (Read row) (Done (Some value)) ≡ false
read_done_with_a_former_value = refl

read_duplicate : fits (Read row) Duplicate ≡ false
read_duplicate = refl

read_missing : fits (Read row) Missing ≡ false
read_missing = refl

read_no_room : fits (Read row) NoRoom ≡ false
read_no_room = refl

read_old : fits (Read row) Old ≡ false
read_old = refl

-- ---- insert

insert_value : fits (Insert row value) (Value value) ≡ false
insert_value = refl

insert_absent : fits (Insert row value) Absent ≡ false
insert_absent = refl

insert_done : fits (Insert row value) (Done None) ≡ true
insert_done = refl

insert_done_with_a_former_value : fits (Insert row value) (Done (Some value)) ≡ false
insert_done_with_a_former_value = refl

insert_duplicate : fits (Insert row value) Duplicate ≡ true
insert_duplicate = refl

insert_missing : fits (Insert row value) Missing ≡ false
insert_missing = refl

insert_no_room : fits (Insert row value) NoRoom ≡ true
insert_no_room = refl

insert_old : fits (Insert row value) Old ≡ false
insert_old = refl

-- ---- update

update_value : fits (Update row value) (Value value) ≡ false
update_value = refl

update_absent : fits (Update row value) Absent ≡ false
update_absent = refl

update_done : fits (Update row value) (Done None) ≡ false
update_done = refl

update_done_with_a_former_value : fits (Update row value) (Done (Some value)) ≡ true
update_done_with_a_former_value = refl

update_duplicate : fits (Update row value) Duplicate ≡ false
update_duplicate = refl

update_missing : fits (Update row value) Missing ≡ true
update_missing = refl

update_no_room : fits (Update row value) NoRoom ≡ false
update_no_room = refl

update_old : fits (Update row value) Old ≡ false
update_old = refl

-- ---- delete

delete_value : fits (Delete row) (Value value) ≡ false
delete_value = refl

delete_absent : fits (Delete row) Absent ≡ false
delete_absent = refl

delete_done : fits (Delete row) (Done None) ≡ false
delete_done = refl

delete_done_with_a_former_value : fits (Delete row) (Done (Some value)) ≡ true
delete_done_with_a_former_value = refl

delete_duplicate : fits (Delete row) Duplicate ≡ false
delete_duplicate = refl

delete_missing : fits (Delete row) Missing ≡ true
delete_missing = refl

delete_no_room : fits (Delete row) NoRoom ≡ false
delete_no_room = refl

delete_old : fits (Delete row) Old ≡ false
delete_old = refl

-- ---- no room

is_no_room_value : is_no_room (Value value) ≡ false
is_no_room_value = refl

is_no_room_absent : is_no_room Absent ≡ false
is_no_room_absent = refl

is_no_room_done : is_no_room (Done None) ≡ false
is_no_room_done = refl

is_no_room_done_with_a_former_value : is_no_room (Done (Some value)) ≡ false
is_no_room_done_with_a_former_value = refl

is_no_room_duplicate : is_no_room Duplicate ≡ false
is_no_room_duplicate = refl

is_no_room_missing : is_no_room Missing ≡ false
is_no_room_missing = refl

is_no_room_no_room : is_no_room NoRoom ≡ true
is_no_room_no_room = refl

is_no_room_old : is_no_room Old ≡ false
is_no_room_old = refl
