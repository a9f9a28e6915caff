-- What a journal's file has.
use Rattle.std.specs.Prelude.{◌≡◌, ◌⊎◌, ◌+◌, ◌<◌, ◌≤◌, ◌^◌, ℕ, List, [], Option, None}
use Rattle.std.specs.List.{flat_map}
use Rattle.tc_log.specs.declared.event.Event.{Event}
use Rattle.tc_log.specs.Printed.{printed}
use Rattle.tc_core.specs.declared.recovery.SiteNote.{SiteNote}
use Rattle.frame_file.specs.declared.device.DeviceError.TheVariants as device
use Rattle.frame_file.specs.declared.reading.FrameFault.{FrameFault}
use Rattle.frame_file.specs.declared.reading.FrameFault.TheVariants.{Device as DeviceFault, Full, Damaged}
use Rattle.frame_file.specs.Reading.{Reads, IsSettled, IsBeforeOrAfter}
use Rattle.log_file.specs.declared.file.LogFile.{LogFile}
use Rattle.log_file.specs.declared.header.Header.{Header}
use Rattle.log_file.specs.Bytes.{Rows, Batch, batch_bytes, payloads_of, rows_of}
use Rattle.log_file.specs.Reading.{IsStart, IsBehind, AreBatches, Says}
use Rattle.journals.specs.declared.journal.NotKept.{NotKept}
use Rattle.journals.specs.declared.journal.NotKept.TheVariants.{Memory, Failed}

-- the file is on the disk: this header, a base where the log begins behind an earlier one, and then batches that have
-- the rows of these events, the oldest first
pub record HasWritten {D : Type 0} (seen : D → List ℕ) (may_leave : D → List ℕ → Type 0) (h : Header) (file : LogFile D)
    (events : List Event) : Type 0 where
  pub base : Option Rows
  pub starts : IsStart base
  pub behind : IsBehind base events
  pub batches : List Batch
  pub are : AreBatches h.dcs batches
  pub settled : IsSettled seen may_leave file.frames (payloads_of h base batches)
  pub rows : rows_of batches ≡ flat_map printed events

-- behind this base
abbrev pub HasWrittenBehind : {D : Type 0} → (D → List ℕ) → (D → List ℕ → Type 0) → Header → Option Rows → LogFile D → List Event → Type 0
HasWrittenBehind seen may_leave h base file events = (written : HasWritten seen may_leave h file events) × (written.base ≡ base)

-- a crash left these bytes of such a file that had the rows of these events, while those of the others were being written behind them
pub record IsLeft (h : Header) (events more : List Event) (left : List ℕ) : Type 0 where
  pub base : Option Rows
  pub starts : IsStart base
  pub behind : IsBehind base events
  pub batches : List Batch
  pub are : AreBatches h.dcs batches
  pub rows : rows_of batches ≡ flat_map printed events
  pub is : IsBeforeOrAfter (payloads_of h base batches) (batch_bytes (record { notes = []; rows = flat_map printed more })) left

-- the bytes of a file with this header say this base and these events; of a file without a frame there are none
pub data IsLogOf (h : Header) (file : List ℕ) (base : Option Rows) (events : List Event) : Type 0 where
  Begun : Reads file [] → base ≡ None → events ≡ [] → IsLogOf h file base events
  Read : (payloads : List (List ℕ)) (known : List SiteNote) → Reads file payloads → Says h payloads base known events
      → IsLogOf h file base events

-- how a fault of the file is told
abbrev pub told_as : FrameFault → NotKept
told_as (DeviceFault device.Memory) = Memory
told_as (DeviceFault device.Failed) = Failed
told_as (DeviceFault device.Unkept) = Failed
told_as Full = Failed
told_as (Damaged number) = Failed

-- why events aren't kept in a file that was as the first and is as the second: memory ran out; or the disk has failed since, or there are
-- 2^64 - 1 frames
abbrev pub Fails : {D : Type 0} → (D → ℕ) → LogFile D → NotKept → LogFile D → Type 0
Fails faults before Memory after = Unit {0}
Fails faults before Failed after = (faults before.frames.device < faults after.frames.device) ⊎ (2 ^ 64 ≤ before.frames.count + 1)
