-- What was handed out of a log's file.
use Rattle.std.specs.Prelude.{◌≡◌, ℕ, ◌+◌, ◌≤◌, ◌^◌, List, [], ◌++◌, length, drop, map, reverse, Bool, true, false, Option, Some, None, is_some}
use Rattle.std.specs.List.{flat_map}
use Rattle.tc_log.specs.declared.event.Event.{Event}
use Rattle.tc_log.specs.Printed.{printed}
use Rattle.tc_core.specs.Core.{Core, loaded_in}
use Rattle.frame_file.specs.Frame.{frames_from, ArePayloads}
use Rattle.log_file.specs.declared.header.Header.{Header}
use Rattle.log_file.specs.Bytes.{Rows, Batch, of_session, payloads_of, notes_of, rows_of}
use Rattle.log_file.specs.Reading.{AreBatches, IsBehind, begins_anew, last_known}
use Rattle.procedure_digest.specs.Header.{header_of}
use Rattle.engine_log.specs.Notes.{known_of}
use Rattle.engine_log.specs.declared.ahead.AheadFault.{AheadFault}
use Rattle.engine_log.specs.declared.ahead.AheadFault.TheVariants.{Memory, Others, Full}
use Rattle.engine_log.specs.declared.ahead.EngineLog.{EngineLog}

-- an engine's log has no records: where it begins behind an earlier one, its data components have them
abbrev pub base_by : Bool → Option Rows
base_by false = None
base_by true = Some []

-- so a log of these events, the oldest first, begins
abbrev pub base_of : List Event → Option Rows
base_of events = base_by (begins_anew events)

-- the frames of a file with this header and base, one behind another: batches that have the rows of these events, the oldest first, and
-- whose last notes are those that were handed out last
pub record AreFrames (h : Header) (base : Option Rows) (l : EngineLog) (file : List ℕ) (events : List Event) : Type 0 where
  pub batches : List Batch
  pub are : AreBatches h.dcs batches
  pub is : file ≡ frames_from 0 (payloads_of h base batches)
  pub fit : ArePayloads (payloads_of h base batches)
  pub frames : l.frames ≡ length (payloads_of h base batches)
  pub rows : rows_of batches ≡ flat_map printed events
  pub count : l.events ≡ length events
  pub known : l.notes.items ≡ last_known h.dcs (notes_of batches)

-- an engine's log has no records
abbrev pub HasNoRecords : Option Rows → Type 0
HasNoRecords None = Unit {0}
HasNoRecords (Some rows) = rows ≡ []

-- such a file with this header, which is whole
pub record IsBegun (h : Header) (l : EngineLog) (file : List ℕ) (events : List Event) : Type 0 where
  pub base : Option Rows
  pub none : HasNoRecords base
  pub behind : IsBehind base events
  pub frames : AreFrames h base l file events

-- these bytes, one behind another, were handed out, with these events, the oldest first
pub data HasHandedOut (l : EngineLog) (file : List ℕ) (events : List Event) : Type 0 where
  Nothing : l.header ≡ None → file ≡ [] → events ≡ [] → HasHandedOut l file events
  Begun : (h : Header) → l.header ≡ Some h → IsBegun h l file events → HasHandedOut l file events

-- so many data components and procedures there are
pub record Fits (h : Header) (l : EngineLog) (c : Core) : Type 0 where
  pub dcs : length l.notes.items ≡ c.dcs
  pub procedures : h.procedures ≡ length c.procs

-- the header's file is that of the state
abbrev pub IsFor : Option Header → EngineLog → Core → Type 0
IsFor None l c = Unit {0}
IsFor (Some h) l c = Fits h l c

-- whether the header that is there says a session
abbrev pub says_session : Option Header → Bool
says_session None = false
says_session (Some h) = is_some h.session

-- the header that is there, or that of the procedures that are loaded and of this session
abbrev pub header_by : Option Header → Option ℕ → Core → Header
header_by None session c = of_session (header_of (loaded_in c)) session
header_by (Some h) session c = h

-- with these bytes behind it the file has all events of the state's log and a last note of each data component that says what is known of it
pub record GoesOn (l : EngineLog) (c : Core) (bytes : List ℕ) (l' : EngineLog) : Type 0 where
  pub own : IsFor l.header l c
  pub header : l'.header ≡ Some (header_by l.header l.session c)
  pub session : l'.session ≡ l.session
  pub handed : (file : List ℕ) (before : List Event) → HasHandedOut l file before
      → HasHandedOut l' (file ++ bytes) (before ++ drop (length before) (reverse c.events))
  pub noted : l'.notes.items ≡ map known_of c.sites
  pub nothing : (h : Header) → l.header ≡ Some h → drop l.events (reverse c.events) ≡ [] → l.notes.items ≡ map known_of c.sites → bytes ≡ []

-- the same of a file that is begun, whichever it is: one batch more, if something has changed
pub record IsOneMore (l : EngineLog) (c : Core) (bytes : List ℕ) (l' : EngineLog) : Type 0 where
  pub handed : (h : Header) (base : Option Rows) (file : List ℕ) (before : List Event) → AreFrames h base l file before
      → AreFrames h base l' (file ++ bytes) (before ++ drop (length before) (reverse c.events))
  pub noted : l'.notes.items ≡ map known_of c.sites
  pub nothing : drop l.events (reverse c.events) ≡ [] → l.notes.items ≡ map known_of c.sites → bytes ≡ []

-- the file has 2^64 - 1 frames; want of memory says nothing
abbrev pub IsAppendFault : EngineLog → AheadFault → Type 0
IsAppendFault l Memory = Unit {0}
IsAppendFault l Others = ⊥
IsAppendFault l Full = 2 ^ 64 ≤ l.frames + 1

-- nothing is handed out: procedures were loaded since the file was begun, or it has 2^64 - 1 frames; want of memory says nothing
abbrev pub IsAheadFault : EngineLog → Core → AheadFault → Type 0
IsAheadFault l c Memory = Unit {0}
IsAheadFault l c Others = IsFor l.header l c → ⊥
IsAheadFault l c Full = 2 ^ 64 ≤ l.frames + 1
