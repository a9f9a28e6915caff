-- From 96 bytes to the event that they may be, by their fields; and when they are an event's at all.
use Rattle.std.specs.Prelude.{◌≡◌, ℕ, zero, suc, ◌+◌, ◌*◌, ◌%◌, ◌<◌, ◌≤◌, ◌^◌, Bool, true, false, ◌==◌, nat_le}
use Rattle.std.specs.Prelude.{if◌then◌else◌, List, [], ◌∷◌, length, take, drop, slice_index, Option, Some, None}
use Rattle.std.specs.List.{flat_map}
use Rattle.std.specs.Option.{option_map}
use Rattle.std.specs.Int.{w16, w64, from_le_bytes}
use Rattle.access_slots.specs.declared.slot.Record.{Record}
use Rattle.access_slots.specs.declared.op.Op.{Op}
use Rattle.access_slots.specs.declared.op.Op.TheVariants.{Read, Insert, Update, Delete}
use Rattle.access_slots.specs.declared.op.Said.{Said}
use Rattle.access_slots.specs.declared.op.Said.TheVariants.{Value, Absent, Done, Duplicate, Missing, NoRoom}
use Rattle.tc_log.specs.declared.event.Event.{Event}
use Rattle.tc_log.specs.declared.event.Event.TheVariants.{Admit, Ask, Answer, Undo, End, Checkpoint}
use Rattle.tc_log.specs.declared.event.Outcome.{Outcome}
use Rattle.tc_log.specs.declared.event.Outcome.TheVariants as outcome
use Rattle.tc_log.specs.declared.read.LogFault.{LogFault}
use Rattle.tc_log.specs.declared.read.LogFault.TheVariants.{Length, Kind, Memory}
use Rattle.tc_log.specs.Printed.{Cells, cells_of, printed}

-- ---- the fields

abbrev pub u16_at : ℕ → List ℕ → ℕ
u16_at place bytes = from_le_bytes w16 (take 2 (drop place bytes))

abbrev pub u64_at : ℕ → List ℕ → ℕ
u64_at place bytes = from_le_bytes w64 (take 8 (drop place bytes))

abbrev pub cells_in : List ℕ → Cells
cells_in bytes = record {
  kind = slice_index bytes 0;
  sub = slice_index bytes 1;
  dc = u16_at 2 bytes;
  table = u16_at 4 bytes;
  txn = u64_at 8 bytes;
  word = u64_at 16 bytes;
  key = u64_at 24 bytes;
  body = drop 32 bytes;
}

-- ---- what they come to

abbrev pub record_in : Cells → Record
record_in c = record { dc = c.dc; table = c.table; key = c.key }

abbrev pub op_in : Cells → Option Op
op_in c =
    if c.sub == 1 then Some (Read (record_in c)) else
    if c.sub == 2 then Some (Insert (record_in c) c.body) else
    if c.sub == 3 then Some (Update (record_in c) c.body) else
    if c.sub == 4 then Some (Delete (record_in c)) else None

abbrev pub said_in : Cells → Option Said
said_in c =
    if c.sub == 1 then Some (Value c.body) else
    if c.sub == 2 then Some Absent else
    if c.sub == 3 then Some (Done None) else
    if c.sub == 4 then Some (Done (Some c.body)) else
    if c.sub == 5 then Some Duplicate else
    if c.sub == 6 then Some Missing else
    if c.sub == 7 then Some NoRoom else None

abbrev pub outcome_in : Cells → Option Outcome
outcome_in c =
    if c.sub == 1 then Some outcome.Committed else
    if c.sub == 2 then Some (outcome.Aborted c.word) else
    if c.sub == 3 then Some outcome.NoRoom else None

-- so many numbers of eight bytes
abbrev pub numbers_in : ℕ → List ℕ → List ℕ
numbers_in zero bytes = []
numbers_in (suc n) bytes = from_le_bytes w64 (take 8 bytes) ∷ numbers_in n (drop 8 bytes)

abbrev pub call_in : Cells → Option Event
call_in c = if nat_le c.sub 8 then Some (Admit c.txn c.word (numbers_in c.sub c.body)) else None

abbrev pub event_in : Cells → Option Event
event_in c =
    if c.kind == 1 then call_in c else
    if c.kind == 2 then option_map (Ask c.txn c.word) (op_in c) else
    if c.kind == 3 then option_map (Answer c.txn c.word) (said_in c) else
    if c.kind == 4 then option_map (Undo c.txn c.word) (op_in c) else
    if c.kind == 5 then option_map (End c.txn) (outcome_in c) else
    if c.kind == 6 then Some (Checkpoint c.txn c.word) else None

-- ---- records of 96 bytes that are an event's

abbrev pub IsRecord : Record → Type 0
IsRecord r = (r.dc < 2 ^ 16) × (r.table < 2 ^ 16) × (r.key < 2 ^ 64)

-- the operation's and the answer's numbers and values are those of machines
abbrev pub IsOp : Op → Type 0
IsOp (Read r) = IsRecord r
IsOp (Insert r v) = IsRecord r × (length v ≡ 64)
IsOp (Update r v) = IsRecord r × (length v ≡ 64)
IsOp (Delete r) = IsRecord r

abbrev pub IsSaid : Said → Type 0
IsSaid (Value v) = length v ≡ 64
IsSaid (Done (Some v)) = length v ≡ 64
IsSaid _ = Unit {0}

abbrev pub AreNumbers : List ℕ → Type 0
AreNumbers [] = Unit {0}
AreNumbers (n ∷ ns) = (n < 2 ^ 64) × AreNumbers ns

abbrev pub IsOutcome : Outcome → Type 0
IsOutcome outcome.Committed = Unit {0}
IsOutcome (outcome.Aborted v) = v < 2 ^ 64
IsOutcome outcome.NoRoom = Unit {0}

abbrev pub IsEvent : Event → Type 0
IsEvent (Admit txn proc args) = (txn < 2 ^ 64) × (proc < 2 ^ 64) × AreNumbers args
IsEvent (Ask txn number o) = (txn < 2 ^ 64) × (number < 2 ^ 64) × IsOp o
IsEvent (Answer txn number said) = (txn < 2 ^ 64) × (number < 2 ^ 64) × IsSaid said
IsEvent (Undo txn number o) = (txn < 2 ^ 64) × (number < 2 ^ 64) × IsOp o
IsEvent (End txn o) = (txn < 2 ^ 64) × IsOutcome o
IsEvent (Checkpoint admitted given) = (admitted < 2 ^ 64) × (given < 2 ^ 64)

abbrev pub is_some : Option Cells → Bool
is_some None = false
is_some (Some c) = true

-- the event has a row in the table
abbrev pub has_row : Event → Bool
has_row e = is_some (cells_of e)

-- some event is printed so
pub record IsPrinted (bytes : List ℕ) : Type 0 where
  pub event : Event
  pub numbers : IsEvent event
  pub row : has_row event ≡ true
  pub prints : printed event ≡ bytes

abbrev pub HaveRows : List Event → Type 0
HaveRows [] = Unit {0}
HaveRows (e ∷ events) = (has_row e ≡ true) × HaveRows events

-- these events, in order, are printed so
pub record ArePrinted (events : List Event) (bytes : List ℕ) : Type 0 where
  pub rows : HaveRows events
  pub prints : flat_map printed events ≡ bytes

abbrev pub AreEvents : List Event → Type 0
AreEvents [] = Unit {0}
AreEvents (e ∷ events) = IsEvent e × AreEvents events

-- whatever events are printed so are these
abbrev pub AreOnlyOnes : List Event → List ℕ → Type 0
AreOnlyOnes events bytes = (others : List Event) → AreEvents others → ArePrinted others bytes → others ≡ events

-- the record at this place, of 96 bytes
abbrev pub record_at : ℕ → List ℕ → List ℕ
record_at place bytes = take 96 (drop (96 * place) bytes)

-- this is the first record that no event is printed as
pub record IsFirstUnread (place : ℕ) (bytes : List ℕ) : Type 0 where
  pub inside : 96 * place + 96 ≤ length bytes
  pub before : (earlier : ℕ) → earlier < place → IsPrinted (record_at earlier bytes)
  pub unread : IsPrinted (record_at place bytes) → ⊥

-- what is wrong with the bytes
abbrev pub IsReadFault : List ℕ → LogFault → Type 0
IsReadFault bytes Length = (length bytes % 96 ≡ 0) → ⊥
IsReadFault bytes (Kind place) = (length bytes % 96 ≡ 0) × IsFirstUnread place bytes
IsReadFault bytes Memory = Unit {0}
