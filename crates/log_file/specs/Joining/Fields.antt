-- The fields of a payload, whatever its bytes are, and what payloads come to.
use Rattle.std.specs.Prelude.{◌≡◌, ℕ, zero, suc, ◌+◌, ◌*◌, ◌/◌, ◌%◌, ◌<◌, ◌==◌, ◌||◌, Bool, true, false, if◌then◌else◌, Option, Some}
use Rattle.std.specs.Prelude.{None, List, [], ◌∷◌, ◌++◌, length, take, drop, map}
use Rattle.std.specs.Int.{w64, from_le_bytes}
use Rattle.access_slots.specs.declared.slot.Record.{Record}
use Rattle.tc_core.specs.declared.recovery.SiteNote.{SiteNote}
use Rattle.tc_core.specs.declared.recovery.SiteNote.TheVariants.{Untold, Restarted, Up}
use Rattle.tc_log.specs.declared.event.Event.{Event}
use Rattle.tc_log.specs.Reading.{IsFirstUnread}
use Rattle.frame_file.specs.declared.device.DeviceError.TheVariants.{Memory}
use Rattle.frame_file.specs.declared.reading.FrameFault.TheVariants.{Device}
use Rattle.log_file.specs.declared.header.Header.{Header}
use Rattle.log_file.specs.declared.note.Note.{Note}
use Rattle.log_file.specs.declared.reading.OpenFault.{OpenFault}
use Rattle.log_file.specs.declared.reading.OpenFault.TheVariants.{Frames, Empty, Other, NoBase, NoBatch, Row}
use Rattle.log_file.specs.Bytes.{Rows, part_bytes, Batch, batch_bytes, notes_of, rows_of}
use Rattle.log_file.specs.Reading.{AreRows, Rise, begins_anew, AreBatches, IsFirstNoPart, IsFirstNoBatch, last_known}

abbrev pub version_in : List ℕ → ℕ
version_in bytes = from_le_bytes w64 (take 8 (drop 8 bytes))

-- whether a header of this version has a session
abbrev pub has_session : ℕ → Bool
has_session version = version == 3 || version == 4

abbrev pub session_by : Bool → List ℕ → Option ℕ
session_by false bytes = None
session_by true bytes = Some (from_le_bytes w64 (take 8 (drop 64 bytes)))

abbrev pub session_in : List ℕ → Option ℕ
session_in bytes = session_by (has_session (version_in bytes)) bytes

abbrev pub header_in : List ℕ → Header
header_in bytes = record {
  dcs = from_le_bytes w64 (take 8 (drop 16 bytes));
  procedures = from_le_bytes w64 (take 8 (drop 24 bytes));
  digest = take 32 (drop 32 bytes);
  session = session_in bytes;
}

-- the first payload has these fields of a header
pub record BeginsWith (payloads : List (List ℕ)) (h : Header) : Type 0 where
  pub first : List ℕ
  pub rest : List (List ℕ)
  pub is : payloads ≡ first ∷ rest
  pub fields : h ≡ header_in first

abbrev pub row_in : List ℕ → Record × List ℕ
row_in bytes = (
  record {
    dc = from_le_bytes w64 (take 8 bytes) % 65536;
    table = from_le_bytes w64 (take 8 bytes) / 65536 % 65536;
    key = from_le_bytes w64 (take 8 (drop 8 bytes));
  },
  drop 16 bytes,
)

abbrev pub rows_in : ℕ → List ℕ → Rows
rows_in zero bytes = []
rows_in (suc n) bytes = row_in (take 80 bytes) ∷ rows_in n (drop 80 bytes)

-- the payload is that of so many records
pub record IsPart (count : ℕ) (payload : List ℕ) : Type 0 where
  pub part : Rows
  pub rows : AreRows part
  pub size : length part ≡ count
  pub is : payload ≡ part_bytes part

-- a part of so many records is behind these, which still rise
pub record IsAdded (count : ℕ) (payload : List ℕ) (old new : Rows) : Type 0 where
  pub part : Rows
  pub rows : AreRows part
  pub size : length part ≡ count
  pub is : payload ≡ part_bytes part
  pub new_is : new ≡ old ++ part
  pub rise : Rise new

-- no such part is
abbrev pub NoneAdded : ℕ → List ℕ → Rows → Type 0
NoneAdded count payload old = (part : Rows) → AreRows part → length part ≡ count → Rise (old ++ part) → payload ≡ part_bytes part → ⊥

abbrev pub known_in : ℕ → ℕ → ℕ → SiteNote
known_in kind n mark = if kind == 0 then Untold else if kind == 1 then Restarted (record { incarnation = n; mark = mark }) else Up n

abbrev pub note_in : List ℕ → Note
note_in bytes = record {
  dc = from_le_bytes w64 (take 8 bytes);
  known = known_in (from_le_bytes w64 (take 8 (drop 8 bytes))) (from_le_bytes w64 (take 8 (drop 16 bytes)))
      (from_le_bytes w64 (take 8 (drop 24 bytes)));
}

abbrev pub notes_in : ℕ → List ℕ → List Note
notes_in zero bytes = []
notes_in (suc n) bytes = note_in (take 32 bytes) ∷ notes_in n (drop 32 bytes)

abbrev pub count_in : List ℕ → ℕ
count_in payload = from_le_bytes w64 (take 8 payload)

abbrev pub batch_in : List ℕ → Batch
batch_in payload = record {
  notes = notes_in (count_in payload) (drop 8 payload);
  rows = drop (32 * count_in payload) (drop 8 payload);
}

-- too short for so many notes
abbrev pub IsShort : List ℕ → Type 0
IsShort payload = length payload < 8 + 32 * count_in payload

-- all are batches, with these notes and rows
pub record AreGathered (dcs : ℕ) (payloads : List (List ℕ)) (known : List SiteNote) (rows : List ℕ) : Type 0 where
  pub batches : List Batch
  pub is : payloads ≡ map batch_bytes batches
  pub are : AreBatches dcs batches
  pub known_is : known ≡ last_known dcs (notes_of batches)
  pub rows_are : rows ≡ rows_of batches

-- so they aren't gathered
abbrev pub IsGatherFault : ℕ → ℕ → List (List ℕ) → OpenFault → Type 0
IsGatherFault dcs front payloads (Frames fault) = fault ≡ Device Memory
IsGatherFault dcs front payloads Empty = ⊥
IsGatherFault dcs front payloads Other = ⊥
IsGatherFault dcs front payloads (NoBase number) = ⊥
IsGatherFault dcs front payloads (NoBatch number) = (place : ℕ) × (number ≡ front + place) × IsFirstNoBatch dcs payloads place
IsGatherFault dcs front payloads (Row place) = ⊥

-- so no base of so many records is found
abbrev pub IsBaseFault : ℕ → List (List ℕ) → OpenFault → Type 0
IsBaseFault count payloads (Frames fault) = fault ≡ Device Memory
IsBaseFault count payloads Empty = ⊥
IsBaseFault count payloads Other = ⊥
IsBaseFault count payloads (NoBase number) = IsFirstNoPart count payloads number
IsBaseFault count payloads (NoBatch number) = ⊥
IsBaseFault count payloads (Row place) = ⊥

-- behind this base stand events that don't begin with a checkpoint
abbrev pub IsNotBehind : Option Rows → List Event → Type 0
IsNotBehind None events = ⊥
IsNotBehind (Some base) events = begins_anew events ≡ false

-- so these rows aren't read
abbrev pub IsRowsFault : List ℕ → OpenFault → Type 0
IsRowsFault rows (Frames fault) = fault ≡ Device Memory
IsRowsFault rows Empty = ⊥
IsRowsFault rows Other = ⊥
IsRowsFault rows (NoBase number) = ⊥
IsRowsFault rows (NoBatch number) = ⊥
IsRowsFault rows (Row place) = IsFirstUnread place rows
