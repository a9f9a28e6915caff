-- The locks of a call, and which operations they cover (Lomet, Fekete, Weikum, Zwilling, CIDR 2009).
use Rattle.std.specs.Prelude.{◌≡◌, ℕ, Bool, true, false, not, ◌&&◌, ◌||◌, ◌==◌, nat_lt, if◌then◌else◌, List, [], ◌∷◌, Option, Some, None}
use Rattle.access_slots.specs.declared.slot.Record.{Record}
use Rattle.access_slots.specs.declared.slot.Mode.{Mode}
use Rattle.access_slots.specs.declared.slot.Mode.TheVariants as mode
use Rattle.access_slots.specs.declared.slot.Slot.{Slot}
use Rattle.access_slots.specs.declared.op.Op.{Op}
use Rattle.access_slots.specs.declared.op.Op.TheVariants.{Read, Insert, Update, Delete}
use Rattle.access_slots.specs.declared.lock.Lock.{Lock}
use Rattle.access_slots.specs.Access.{record_of}

-- ---- records in order: by data component, table and key

abbrev pub record_eq : Record → Record → Bool
record_eq a b = (a.dc == b.dc) && ((a.table == b.table) && (a.key == b.key))

abbrev pub record_less : Record → Record → Bool
record_less a b = nat_lt a.dc b.dc || ((a.dc == b.dc) && (nat_lt a.table b.table || ((a.table == b.table) && nat_lt a.key b.key)))

-- ---- operations

-- the record of an operation
abbrev pub target : Op → Record
target (Read r) = r
target (Insert r v) = r
target (Update r v) = r
target (Delete r) = r

abbrev pub is_read : Op → Bool
is_read (Read r) = true
is_read (Insert r v) = false
is_read (Update r v) = false
is_read (Delete r) = false

-- one record, and at least one of the two isn't Read
abbrev pub conflict : Op → Op → Bool
conflict a b = record_eq (target a) (target b) && not (is_read a && is_read b)

-- ---- locks

-- Write is the greater
abbrev pub greater : Mode → Mode → Mode
greater mode.Read m = m
greater mode.Write m = mode.Write

abbrev pub greatest : Mode → Option Mode → Mode
greatest m None = m
greatest m (Some n) = greater m n

-- the greatest mode with which these slots name the record, where one does
abbrev pub mode_named : List ℕ → List Slot → Record → Option Mode
mode_named args [] r = None
mode_named args (s ∷ slots) r = if record_eq (record_of args s) r then
    Some (greatest s.mode (mode_named args slots r)) else mode_named args slots r

-- the mode in which the record is locked, where it is
abbrev pub mode_in : List Lock → Record → Option Mode
mode_in [] r = None
mode_in (l ∷ locks) r = if record_eq l.«record» r then Some l.mode else mode_in locks r

-- each record is above this one, and they rise
abbrev pub RisingFrom : Record → List Lock → Type 0
RisingFrom r [] = Unit {0}
RisingFrom r (l ∷ locks) = (record_less r l.«record» ≡ true) × RisingFrom l.«record» locks

abbrev pub Rising : List Lock → Type 0
Rising [] = Unit {0}
Rising (l ∷ locks) = RisingFrom l.«record» locks

-- these are the locks of a call: each record that a slot names, in its greatest mode, and no other
abbrev pub AreLocksOf : List ℕ → List Slot → List Lock → Type 0
AreLocksOf args slots locks = (r : Record) → mode_in locks r ≡ mode_named args slots r

-- a lock in this mode allows it
abbrev pub allows : Option Mode → Bool → Bool
allows None reads = false
allows (Some mode.Read) reads = reads
allows (Some mode.Write) reads = true

-- where records are locked in these modes, the operation's record is locked, and in Write unless it reads
abbrev pub covers : (Record → Option Mode) → Op → Bool
covers mode_of o = allows (mode_of (target o)) (is_read o)

abbrev pub covered : List Lock → Op → Bool
covered locks o = covers (mode_in locks) o
