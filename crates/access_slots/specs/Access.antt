-- Operations, their records and what may be said to them (Lomet, Fekete, Weikum, Zwilling, CIDR 2009; this profile).
use Rattle.std.specs.Prelude.{ℕ, Bool, true, false, List, slice_index, Some, None}
use Rattle.access_slots.specs.declared.slot.Record.{Record}
use Rattle.access_slots.specs.declared.slot.Mode.{Mode}
use Rattle.access_slots.specs.declared.slot.Mode.TheVariants as mode
use Rattle.access_slots.specs.declared.slot.Key.{Key}
use Rattle.access_slots.specs.declared.slot.Key.TheVariants.{Arg, Fixed}
use Rattle.access_slots.specs.declared.slot.Slot.{Slot}
use Rattle.access_slots.specs.declared.op.Op.{Op}
use Rattle.access_slots.specs.declared.op.Op.TheVariants.{Read, Insert, Update, Delete}
use Rattle.access_slots.specs.declared.op.Said.{Said}
use Rattle.access_slots.specs.declared.op.Said.TheVariants.{Value, Absent, Done, Duplicate, Missing, NoRoom}

abbrev pub key_of : List ℕ → Key → ℕ
key_of args (Arg argument) = slice_index args argument
key_of args (Fixed key) = key

-- the record that a slot names with these arguments
abbrev pub record_of : List ℕ → Slot → Record
record_of args slot = record { dc = slot.dc; table = slot.table; key = key_of args slot.key }

abbrev pub writes : Mode → Bool
writes mode.Read = false
writes mode.Write = true

-- the answer can be one to the operation
abbrev pub fits : Op → Said → Bool
fits (Read r) (Value v) = true
fits (Read r) Absent = true
fits (Insert r v) (Done None) = true
fits (Insert r v) Duplicate = true
fits (Insert r v) NoRoom = true
fits (Update r v) (Done (Some former)) = true
fits (Update r v) Missing = true
fits (Delete r) (Done (Some former)) = true
fits (Delete r) Missing = true
fits _ _ = false

abbrev pub is_no_room : Said → Bool
is_no_room NoRoom = true
is_no_room _ = false
