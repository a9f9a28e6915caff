-- What `log --follow` prints of the logs that it finds under a name, one after another.
use Rattle.std.specs.Prelude.{◌≡◌, ◌⊎◌, ℕ, ◌+◌, ◌-◌, ◌==◌, nat_le, if◌then◌else◌, ◌&&◌, List, [], ◌∷◌, ◌++◌, length}
use Rattle.std.specs.Prelude.{drop, take, Option, Some, None, codes, decimal, string_bytes}
use Rattle.std.specs.List.{fold}
use Rattle.tc_log.specs.declared.event.Event.{Event}
use Rattle.tc_log.specs.declared.event.Event.TheVariants.{Admit, Ask, Answer, Undo, End, Checkpoint}
use Rattle.tc_log.specs.Reading.{ArePrinted}
use Rattle.frame_file.specs.Frame.{frames_from}
use Rattle.frame_file.specs.Reading.{Reads}
use Rattle.log_file.specs.declared.header.Header.{Header}
use Rattle.log_file.specs.declared.reading.OpenFault.{OpenFault}
use Rattle.log_file.specs.declared.stored.Stored.{Stored}
use Rattle.log_file.specs.Bytes.{Rows, Batch, header_bytes, payloads_of, rows_of}
use Rattle.log_file.specs.Reading.{IsStart, AreBatches}
use Rattle.log_file.specs.Stored.{IsStored, IsFileFault}
use Rattle.log_part.specs.declared.part.Part.{Part}
use Rattle.log_part.specs.Part.{begin_of}
use Rattle.log_command.specs.declared.following.Reached.{Reached}
use Rattle.log_command.specs.declared.following.Seam.{Seam}
use Rattle.log_command.specs.declared.following.Seam.TheVariants.{Whole, Gap, Another}
use Rattle.log_command.specs.declared.following.Followed.{Followed}
use Rattle.log_command.specs.declared.following.Begun.{Begun}
use Rattle.log_command.specs.declared.following.Begun.TheVariants as begun
use Rattle.log_command.specs.EventLines.{event_lines}
use Rattle.log_command.specs.LogReport.{IsUnread}

-- ---- lines

-- of a log's events from the place `first` on
abbrev pub lines_from : (first : ℕ) → List Event → List ℕ
lines_from first events = event_lines first (drop first events)

-- of events that stand at this place of a log, as far as they stand at `first` or behind it
abbrev pub lines_behind : (first place : ℕ) → List Event → List ℕ
lines_behind first place events = event_lines (place + (first - place)) (drop (first - place) events)

-- of logs that were found one after another: of the first one from a place on, of each further one from its beginning
abbrev pub lines_of : (first : ℕ) → List (List Event) → List ℕ
lines_of first [] = []
lines_of first (log ∷ logs) = lines_from first log ++ lines_of 0 logs

-- the payloads are those of a log with this header, whose rows are those of these events
pub record HasEvents (h : Header) (payloads : List (List ℕ)) (events : List Event) : Type 0 where
  pub base : Option Rows
  pub batches : List Batch
  pub is : payloads ≡ payloads_of h base batches
  pub starts : IsStart base
  pub are : AreBatches h.dcs batches
  pub printed : ArePrinted events (rows_of batches)

-- the frames of a file have these events of a log
pub record IsFound (events : List Event) : Type 0 where
  pub file : List ℕ
  pub payloads : List (List ℕ)
  pub header : Header
  pub reads : Reads file payloads
  pub has : HasEvents header payloads events

abbrev pub AreFound : List (List Event) → Type 0
AreFound [] = Unit {0}
AreFound (log ∷ logs) = IsFound log × AreFound logs

-- the lines of logs that were found in a file, all events in order, each once: of the first log those of a part, which had so many events
-- when it was found
pub record AreLines (part : Part) (printed : List ℕ) : Type 0 where
  pub logs : List (List Event)
  pub count : ℕ
  pub found : AreFound logs
  pub are : printed ≡ lines_of (begin_of part count) logs

-- ---- how far a log was read

abbrev pub after : Reached → Event → Reached
after r (Admit t p args) = record r { serial = t }
after r (Ask t n o) = record r { number = n }
after r (Undo t n o) = record r { number = n }
after r (Checkpoint admitted given) = record { serial = admitted; number = given }
after r other = r

abbrev pub nothing_reached : Reached
nothing_reached = record { serial = 0; number = 0 }

-- what the checkpoint says with which a log begins
abbrev pub origin_of : List Event → Option Reached
origin_of (Checkpoint admitted given ∷ events) = Some (record { serial = admitted; number = given })
origin_of other = None

-- these are the events of the file's whole frames, and all that were read
pub record IsReadUpTo (file : List ℕ) (f : Followed) (events : List Event) : Type 0 where
  pub payloads : List (List ℕ)
  pub reads : Reads file payloads
  pub has : HasEvents f.header payloads events
  pub frames : f.frames ≡ length payloads
  pub bytes : f.bytes ≡ length (frames_from 0 payloads)
  pub count : f.events ≡ length events
  pub reached : f.reached ≡ fold after nothing_reached events

-- where the lines of a log begin, behind these
abbrev pub first_behind : List (List Event) → ℕ → ℕ
first_behind [] first = first
first_behind (log ∷ logs) first = 0

-- the file's events are read, and these lines are printed of them and of the logs before them
pub record HasPrinted (part : Part) (file : List ℕ) (f : Followed) (printed : List ℕ) : Type 0 where
  pub earlier : List (List Event)
  pub now : List Event
  pub count : ℕ
  pub found : AreFound earlier
  pub read : IsReadUpTo file f now
  pub first : f.first ≡ first_behind earlier (begin_of part count)
  pub are : printed ≡ lines_of (begin_of part count) (earlier ++ now ∷ [])

-- these events more are read
pub record IsTaken (old : Followed) (events : List Event) (new : Followed) : Type 0 where
  pub header : new.header ≡ old.header
  pub frames : new.frames ≡ old.frames
  pub bytes : new.bytes ≡ old.bytes
  pub first : new.first ≡ old.first
  pub count : new.events ≡ old.events + length events
  pub reached : new.reached ≡ fold after old.reached events

-- the file isn't read, or it is a log of another header
abbrev pub IsUnlike : Header → List ℕ → Type 0
IsUnlike h file = ((fault : OpenFault) × IsFileFault file fault) ⊎ ((s : Stored) × IsStored file s × (¬ (s.header ≡ h)))

-- these frames, behind the header of a log, aren't read as one
pub record IsNoLog (h : Header) (number : ℕ) (bytes : List ℕ) : Type 0 where
  pub payloads : List (List ℕ)
  pub rest : List ℕ
  pub is : bytes ≡ frames_from number payloads ++ rest
  pub unlike : IsUnlike h (frames_from 0 (header_bytes h ∷ payloads))

-- so what came behind the frames that were read isn't read either, and nothing is printed
pub record IsWaiting (old : Followed) (bytes : List ℕ) (new : Followed) (lines : List ℕ) : Type 0 where
  pub why : IsNoLog old.header old.frames bytes
  pub same : new ≡ record old { unfinished = length bytes }
  pub silent : lines ≡ []

-- a log that is followed from a part of its events on, or a file that isn't read
abbrev pub IsBegun : Part → List ℕ → Begun → Type 0
IsBegun part file (begun.Followed f lines) = HasPrinted part file f (string_bytes lines)
IsBegun part file (begun.Unread report) = IsUnread file report.status (string_bytes report.lines)

-- the log of another file is followed behind one of which these lines were printed
abbrev pub IsAnew : Part → List ℕ → (printed : List ℕ) → Begun → Type 0
IsAnew part file printed (begun.Followed f lines) = HasPrinted part file f (printed ++ string_bytes lines)
IsAnew part file printed (begun.Unread report) = IsUnread file report.status (string_bytes report.lines)

-- some log is read
abbrev pub IsReadable : List ℕ → Type 0
IsReadable file = (s : Stored) × IsStored file s

-- ---- between two logs

-- behind so many transactions and numbers, a log that begins behind these
abbrev pub seam_at : Reached → Reached → Seam
seam_at seen origin =
    if nat_le seen.serial origin.serial && nat_le seen.number origin.number then
    if seen.serial == origin.serial && seen.number == origin.number then Whole
    else Gap (origin.serial - seen.serial) (origin.number - seen.number)
    else Another

abbrev pub seam_by : Reached → Option Reached → Seam
seam_by seen None = Another
seam_by seen (Some origin) = seam_at seen origin

abbrev pub seam_line : Seam → List ℕ
seam_line Whole = []
seam_line (Gap transactions numbers) =
    codes "unseen " ++ (decimal transactions ++ (codes " transactions " ++ (decimal numbers ++ codes " numbers\n")))
seam_line Another = codes "another log\n"
