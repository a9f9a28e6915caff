-- What the bytes of a file are taken for.
use Rattle.std.specs.Prelude.{◌≡◌, ◌≢◌, ℕ, List, [], length, reverse, Option, Some}
use Rattle.tc_log.specs.declared.event.Event.{Event}
use Rattle.tc_core.specs.declared.recovery.SiteNote.{SiteNote}
use Rattle.frame_file.specs.Frame.{frames_from, IsEnd}
use Rattle.frame_file.specs.Reading.{Reads}
use Rattle.log_file.specs.declared.header.Header.{Header}
use Rattle.log_file.specs.declared.stored.Stored.{Stored}
use Rattle.log_file.specs.Bytes.{Rows, of_session}
use Rattle.log_file.specs.Reading.{Says}
use Rattle.log_file.specs.Stored.{IsStored, IsFileFault}
use Rattle.engine_log.specs.Handing.{HasNoRecords, HasHandedOut}
use Rattle.engine_log.specs.declared.back.Back.{Back}
use Rattle.engine_log.specs.declared.back.BackFault.{BackFault}
use Rattle.engine_log.specs.declared.back.BackFault.TheVariants.{Unread, Others, Records}

-- the whole frames of the file are the log of this header and of the session that the file says, without records, and the bytes behind them an
-- end that a crash leaves; what is handed out from then on goes on behind the whole frames
pub record IsBack (h : Header) (bytes : List ℕ) (b : Back) : Type 0 where
  pub payloads : List (List ℕ)
  pub reads : Reads bytes payloads
  pub ends : IsEnd (length payloads) reads.rest
  pub whole : b.whole ≡ length (frames_from 0 payloads)
  pub base : Option Rows
  pub none : HasNoRecords base
  pub says : Says (of_session h b.file.session) payloads base b.file.notes.items (reverse b.log.events)
  pub header : b.file.header ≡ Some (of_session h b.file.session)
  pub handed : HasHandedOut b.file (frames_from 0 payloads) (reverse b.log.events)

-- it is a log, with another header, whichever session that has
pub record IsOthers (h : Header) (bytes : List ℕ) : Type 0 where
  pub stored : Stored
  pub is : IsStored bytes stored
  pub differs : stored.header ≢ of_session h stored.header.session

-- it is this header's log, and begins with records
pub record HasRecords (h : Header) (bytes : List ℕ) : Type 0 where
  pub session : Option ℕ
  pub payloads : List (List ℕ)
  pub reads : Reads bytes payloads
  pub base : Rows
  pub some : base ≢ []
  pub notes : List SiteNote
  pub events : List Event
  pub says : Says (of_session h session) payloads (Some base) notes events

-- so it isn't taken
abbrev pub IsBackFault : Header → List ℕ → BackFault → Type 0
IsBackFault h bytes (Unread fault) = IsFileFault bytes fault
IsBackFault h bytes Others = IsOthers h bytes
IsBackFault h bytes Records = HasRecords h bytes
