-- What the payloads of a log's file say.
use Rattle.std.specs.Prelude.{◌≡◌, ◌⊎◌, ℕ, ◌+◌, ◌-◌, ◌%◌, ◌<◌, ◌^◌, min, Bool, true, false, List, [], ◌∷◌, ◌++◌}
use Rattle.std.specs.Prelude.{length, take, drop, map, replicate, slice_set, slice_index_or, Option, Some, None}
use Rattle.std.specs.List.{All, fold}
use Rattle.access_slots.specs.declared.slot.Record.{Record}
use Rattle.access_slots.specs.Locks.{record_less}
use Rattle.tc_log.specs.declared.event.Event.{Event}
use Rattle.tc_log.specs.declared.event.Event.TheVariants.{Checkpoint}
use Rattle.tc_log.specs.Reading.{ArePrinted, AreOnlyOnes, IsFirstUnread}
use Rattle.tc_core.specs.declared.recovery.SiteNote.{SiteNote}
use Rattle.tc_core.specs.declared.recovery.SiteNote.TheVariants.{Untold, Restarted, Up}
use Rattle.frame_file.specs.declared.device.DeviceError.TheVariants.{Memory}
use Rattle.frame_file.specs.declared.reading.FrameFault.{FrameFault}
use Rattle.frame_file.specs.declared.reading.FrameFault.TheVariants.{Device, Full, Damaged}
use Rattle.frame_file.specs.Frame.{framed}
use Rattle.frame_file.specs.Reading.{Reads, IsDamaged, IsBeforeOrAfter}
use Rattle.log_file.specs.declared.header.Header.{Header}
use Rattle.log_file.specs.declared.note.Note.{Note}
use Rattle.log_file.specs.declared.reading.OpenFault.{OpenFault}
use Rattle.log_file.specs.declared.reading.OpenFault.TheVariants.{Frames, Empty, Other, NoBase, NoBatch, Row}
use Rattle.log_file.specs.Bytes.{Rows, Batch, part_bytes, parts_of, batch_bytes, header_bytes, based_header_bytes, front_of, payloads_of, notes_of, rows_of}

-- ---- headers and batches as they are written

-- a number of machines
abbrev pub IsSession : Option ℕ → Type 0
IsSession None = Unit {0}
IsSession (Some session) = session < 2 ^ 64

pub record IsHeader (h : Header) : Type 0 where
  pub dcs : h.dcs < 2 ^ 64
  pub procedures : h.procedures < 2 ^ 64
  pub session : IsSession h.session

-- the payload is this header's, with a base or without one
abbrev pub IsHead : Header → List ℕ → Type 0
IsHead h first = (first ≡ header_bytes h) ⊎ ((rows : ℕ) × (rows < 2 ^ 64) × (first ≡ based_header_bytes h rows))

-- numbers of machines
pub record IsRow (row : Record × List ℕ) : Type 0 where
  pub dc : row.0.dc < 2 ^ 16
  pub table : row.0.table < 2 ^ 16
  pub key : row.0.key < 2 ^ 64
  pub value : length row.1 ≡ 64

abbrev pub AreRows : Rows → Type 0
AreRows [] = Unit {0}
AreRows (row ∷ rows) = IsRow row × AreRows rows

-- each record is above the one before it
abbrev pub RiseFrom : Record → Rows → Type 0
RiseFrom r [] = Unit {0}
RiseFrom r (row ∷ rows) = (record_less r row.0 ≡ true) × RiseFrom row.0 rows

abbrev pub Rise : Rows → Type 0
Rise [] = Unit {0}
Rise (row ∷ rows) = RiseFrom row.0 rows

pub record IsBase (base : Rows) : Type 0 where
  pub rows : AreRows base
  pub rise : Rise base
  pub count : length base < 2 ^ 64

-- numbers of machines
abbrev pub IsKnown : SiteNote → Type 0
IsKnown Untold = Unit {0}
IsKnown (Restarted news) = (news.incarnation < 2 ^ 64) × (news.mark < 2 ^ 64)
IsKnown (Up n) = n < 2 ^ 64

abbrev pub IsNote : Note → Type 0
IsNote n = (n.dc < 2 ^ 64) × IsKnown n.known

abbrev pub AreNotes : List Note → Type 0
AreNotes [] = Unit {0}
AreNotes (n ∷ notes) = IsNote n × AreNotes notes

-- for so many data components
pub record IsBatch (dcs : ℕ) (b : Batch) : Type 0 where
  pub notes : AreNotes b.notes
  pub count : length b.notes < 2 ^ 64
  pub there : All (λ (n : Note). n.dc < dcs) b.notes
  pub whole : length b.rows % 96 ≡ 0

abbrev pub AreBatches : ℕ → List Batch → Type 0
AreBatches dcs [] = Unit {0}
AreBatches dcs (b ∷ batches) = IsBatch dcs b × AreBatches dcs batches

-- these, and perhaps others behind them
pub record Continue (batches all : List Batch) : Type 0 where
  pub more : List Batch
  pub is : all ≡ batches ++ more

-- the payload is such a batch
pub record IsSync (dcs : ℕ) (payload : List ℕ) : Type 0 where
  pub batch : Batch
  pub fits : IsBatch dcs batch
  pub is : payload ≡ batch_bytes batch

-- ---- what they say

abbrev pub with_note : List SiteNote → Note → List SiteNote
with_note known n = slice_set known n.dc n.known

-- of each data component what its last note says, and at first nothing
abbrev pub last_known : ℕ → List Note → List SiteNote
last_known dcs notes = fold with_note (replicate dcs Untold) notes

abbrev pub is_checkpoint : Event → Bool
is_checkpoint (Checkpoint admitted given) = true
is_checkpoint other = false

-- whether the oldest event is a checkpoint
abbrev pub begins_anew : List Event → Bool
begins_anew [] = false
begins_anew (e ∷ events) = is_checkpoint e

-- behind a base stands a log that begins anew
abbrev pub IsBehind : Option Rows → List Event → Type 0
IsBehind None events = Unit {0}
IsBehind (Some base) events = begins_anew events ≡ true

-- what a log begins with
abbrev pub IsStart : Option Rows → Type 0
IsStart None = Unit {0}
IsStart (Some base) = IsBase base

-- the header's payload, the base's, and then batches, whose rows are those of these events, oldest first, and of no others; and their last
-- notes
pub record Says (h : Header) (payloads : List (List ℕ)) (base : Option Rows) (known : List SiteNote) (events : List Event) : Type 0 where
  pub batches : List Batch
  pub is : payloads ≡ payloads_of h base batches
  pub starts : IsStart base
  pub behind : IsBehind base events
  pub are : AreBatches h.dcs batches
  pub known_is : known ≡ last_known h.dcs (notes_of batches)
  pub printed : ArePrinted events (rows_of batches)
  pub only : AreOnlyOnes events (rows_of batches)

-- ---- what they don't

-- a part of the base goes on behind these records: so many of those that are left, each above the one before it
pub record GoesOn (count : ℕ) (before part : Rows) : Type 0 where
  pub size : length part ≡ min (count - length before) 4096
  pub rows : AreRows part
  pub rise : Rise (before ++ part)

-- behind whole parts, in which not all of so many records came, no part stands that goes on: the number of its frame, the header's being 0
pub record IsFirstNoPart (count : ℕ) (payloads : List (List ℕ)) (number : ℕ) : Type 0 where
  pub before : Rows
  pub rest : List (List ℕ)
  pub is : payloads ≡ map part_bytes (parts_of before) ++ rest
  pub whole : length before % 4096 ≡ 0
  pub fewer : length before < count
  pub rows : AreRows before
  pub rise : Rise before
  pub number_is : number ≡ length (parts_of before) + 1
  pub none : (part : Rows) (after : List (List ℕ)) → GoesOn count before part → rest ≡ part_bytes part ∷ after → ⊥

-- the base isn't whole; or it is, and the events behind it don't begin with a checkpoint, which is to stand in the frame of this number
pub data IsNoBase (h : Header) (payloads : List (List ℕ)) (number : ℕ) : Type 0 where
  NoPart : (count : ℕ) (rest : List (List ℕ)) → count < 2 ^ 64 → payloads ≡ based_header_bytes h count ∷ rest
      → IsFirstNoPart count rest number → IsNoBase h payloads number
  NoCheckpoint : (base : Rows) (batches : List Batch) (events : List Event) → IsBase base → AreBatches h.dcs batches
      → payloads ≡ payloads_of h (Some base) batches → ArePrinted events (rows_of batches) → begins_anew events ≡ false
      → number ≡ length (parts_of base) + 1 → IsNoBase h payloads number

-- the first payload that is no batch's
pub record IsFirstNoBatch (dcs : ℕ) (payloads : List (List ℕ)) (place : ℕ) : Type 0 where
  pub inside : place < length payloads
  pub before : (k : ℕ) (d : List ℕ) → k < place → IsSync dcs (slice_index_or payloads k d)
  pub none : (d : List ℕ) → IsSync dcs (slice_index_or payloads place d) → ⊥

-- behind this header's payload and the base's stands one that is no batch's: the number of its frame, the header's being 0
pub record IsNoBatch (h : Header) (payloads : List (List ℕ)) (number : ℕ) : Type 0 where
  pub base : Option Rows
  pub starts : IsStart base
  pub rest : List (List ℕ)
  pub is : payloads ≡ front_of h base ++ rest
  pub place : ℕ
  pub number_is : number ≡ length (front_of h base) + place
  pub first : IsFirstNoBatch h.dcs rest place

-- all are batches', and the row of this place is the first that is no event's
pub record IsRowFault (h : Header) (payloads : List (List ℕ)) (place : ℕ) : Type 0 where
  pub base : Option Rows
  pub starts : IsStart base
  pub batches : List Batch
  pub is : payloads ≡ payloads_of h base batches
  pub are : AreBatches h.dcs batches
  pub first : IsFirstUnread place (rows_of batches)

-- there is a first payload, which isn't this header's
pub record IsOther (h : Header) (payloads : List (List ℕ)) : Type 0 where
  pub first : List ℕ
  pub rest : List (List ℕ)
  pub is : payloads ≡ first ∷ rest
  pub differs : IsHead h first → ⊥

-- so these payloads aren't read; want of memory says nothing
abbrev pub IsSayFault : Header → List (List ℕ) → OpenFault → Type 0
IsSayFault h payloads (Frames fault) = fault ≡ Device Memory
IsSayFault h payloads Empty = payloads ≡ []
IsSayFault h payloads Other = IsOther h payloads
IsSayFault h payloads (NoBase number) = IsNoBase h payloads number
IsSayFault h payloads (NoBatch number) = IsNoBatch h payloads number
IsSayFault h payloads (Row place) = IsRowFault h payloads place

-- so the file isn't read; what a device says of itself is in its own clauses
abbrev pub IsFramesFault : List ℕ → FrameFault → Type 0
IsFramesFault file (Damaged number) = IsDamaged file number
IsFramesFault file (Device e) = Unit {0}
IsFramesFault file Full = Unit {0}

-- it is empty, or the beginning of this header's frame
pub record IsBegun (h : Header) (file : List ℕ) : Type 0 where
  pub reads : Reads file []
  pub front : file ≡ take (length file) (framed 0 (header_bytes h))

-- the file's frames are these payloads, which aren't read
pub record IsUnsaid (h : Header) (file : List ℕ) (fault : OpenFault) : Type 0 where
  pub payloads : List (List ℕ)
  pub reads : Reads file payloads
  pub why : IsSayFault h payloads fault

abbrev pub IsOpenFault : Header → List ℕ → OpenFault → Type 0
IsOpenFault h file (Frames fault) = IsFramesFault file fault
IsOpenFault h file Empty = IsBegun h file
IsOpenFault h file Other = IsUnsaid h file Other ⊎ (Reads file [] × (IsBegun h file → ⊥))
IsOpenFault h file (NoBase number) = IsUnsaid h file (NoBase number)
IsOpenFault h file (NoBatch number) = IsUnsaid h file (NoBatch number)
IsOpenFault h file (Row place) = IsUnsaid h file (Row place)

-- the file isn't taken for this header's log
abbrev pub IsRefusal : OpenFault → Type 0
IsRefusal (Frames (Damaged number)) = Unit {0}
IsRefusal (Frames other) = ⊥
IsRefusal Empty = ⊥
IsRefusal Other = Unit {0}
IsRefusal (NoBase number) = Unit {0}
IsRefusal (NoBatch number) = Unit {0}
IsRefusal (Row place) = Unit {0}

-- nothing of the device has changed that a read or a crash shows, and nothing was cut off
pub record IsAsItWas {D : Type 0} (seen : D → List ℕ) (may_leave : D → List ℕ → Type 0) (kept : D → List ℕ) (old new : D) : Type 0 where
  pub bytes : seen new ≡ seen old
  pub left : (c : List ℕ) → may_leave new c → may_leave old c
  pub same : kept new ≡ kept old

-- what was cut off from the file is kept behind what was kept before
abbrev pub Keeps : {D : Type 0} (seen kept : D → List ℕ) (old new : D) → Type 0
Keeps seen kept old new = kept new ≡ kept old ++ drop (length (seen new)) (seen old)

-- a crash left these frames, or a part of them: what it left of the next one is as `IsBeforeOrAfter` says
pub record IsFront (all : List (List ℕ)) (file : List ℕ) : Type 0 where
  pub before : List (List ℕ)
  pub payload : List ℕ
  pub after : List (List ℕ)
  pub is : all ≡ before ++ payload ∷ after
  pub left : IsBeforeOrAfter before payload file
