-- The payloads of a log's file as bytes. Numbers have 8, little-endian.
use Rattle.std.specs.Prelude.{ℕ, zero, suc, ◌+◌, ◌*◌, ◌/◌, List, [], ◌∷◌, ◌++◌, length, take, drop, map, Option, Some, None}
use Rattle.std.specs.List.{flat_map}
use Rattle.std.specs.Int.{w64, to_le_bytes}
use Rattle.access_slots.specs.declared.slot.Record.{Record}
use Rattle.tc_core.specs.declared.recovery.SiteNote.{SiteNote}
use Rattle.tc_core.specs.declared.recovery.SiteNote.TheVariants.{Untold, Restarted, Up}
use Rattle.log_file.specs.declared.header.Header.{Header}
use Rattle.log_file.specs.declared.note.Note.{Note}

-- "mazzulpe", the version of the layout, and how many data components and procedures there are
unfoldable pub front_bytes : ℕ → Header → List ℕ
front_bytes version h =
    ((to_le_bytes w64 0x6570_6c75_7a7a_616d ++ to_le_bytes w64 version) ++ to_le_bytes w64 h.dcs) ++ to_le_bytes w64 h.procedures

-- this header, with a session or without one
abbrev pub of_session : Header → Option ℕ → Header
of_session h session = record h { session = session }

-- of a log that begins at the beginning: 1, and with a session 3
abbrev pub plain_version : Option ℕ → ℕ
plain_version None = 1
plain_version (Some session) = 3

-- of one that begins behind an earlier one: 2, and with a session 4
abbrev pub based_version : Option ℕ → ℕ
based_version None = 2
based_version (Some session) = 4

abbrev pub session_bytes : Option ℕ → List ℕ
session_bytes None = []
session_bytes (Some session) = to_le_bytes w64 session

-- and then the procedures' digest, and the session
unfoldable pub own_bytes : ℕ → Header → List ℕ
own_bytes version h = (front_bytes version h ++ h.digest) ++ session_bytes h.session

-- in layouts 1 and 3
unfoldable pub header_bytes : Header → List ℕ
header_bytes h = own_bytes (plain_version h.session) h

-- and in layouts 2 and 4 how many base records there are
unfoldable pub based_header_bytes : Header → ℕ → List ℕ
based_header_bytes h rows = own_bytes (based_version h.session) h ++ to_le_bytes w64 rows

-- ---- base records: what data components begin with, where the log begins behind an earlier one

-- records and their values
abbrev pub Rows : Type 0
Rows = List (Record × List ℕ)

-- 80 bytes: the data component and the table, of 2 bytes each, 4 zeros, the key, and the value
unfoldable pub row_bytes : Record × List ℕ → List ℕ
row_bytes row = (to_le_bytes w64 (row.0.dc + 65536 * row.0.table) ++ to_le_bytes w64 row.0.key) ++ row.1

abbrev pub part_bytes : Rows → List ℕ
part_bytes rows = flat_map row_bytes rows

-- so many parts, of 4,096 records each, as far as they are there
abbrev pub first_parts : ℕ → Rows → List Rows
first_parts zero rows = []
first_parts (suc n) rows = take 4096 rows ∷ first_parts n (drop 4096 rows)

-- all of them in parts
abbrev pub parts_of : Rows → List Rows
parts_of rows = first_parts ((length rows + 4095) / 4096) rows

-- ---- a note

abbrev pub kind_of : SiteNote → ℕ
kind_of Untold = 0
kind_of (Restarted news) = 1
kind_of (Up n) = 2

abbrev pub incarnation_of : SiteNote → ℕ
incarnation_of Untold = 0
incarnation_of (Restarted news) = news.incarnation
incarnation_of (Up n) = n

abbrev pub mark_of : SiteNote → ℕ
mark_of Untold = 0
mark_of (Restarted news) = news.mark
mark_of (Up n) = 0

-- 32 bytes: the data component, the kind, the incarnation and the mark
unfoldable pub note_bytes : Note → List ℕ
note_bytes n =
    ((to_le_bytes w64 n.dc ++ to_le_bytes w64 (kind_of n.known)) ++ to_le_bytes w64 (incarnation_of n.known))
    ++ to_le_bytes w64 (mark_of n.known)

-- ---- what one sync writes

-- notes of data components, and the rows of events
pub record Batch : Type 0 where
  pub notes : List Note
  pub rows : List ℕ

-- how many notes, the notes, and the rows
unfoldable pub batch_bytes : Batch → List ℕ
batch_bytes b = (to_le_bytes w64 (length b.notes) ++ flat_map note_bytes b.notes) ++ b.rows

-- ---- a file

-- the header's, of layout 2 or 4 where there is a base, and then the base's
abbrev pub front_of : Header → Option Rows → List (List ℕ)
front_of h None = header_bytes h ∷ []
front_of h (Some base) = based_header_bytes h (length base) ∷ map part_bytes (parts_of base)

-- and then each batch's
abbrev pub payloads_of : Header → Option Rows → List Batch → List (List ℕ)
payloads_of h base batches = front_of h base ++ map batch_bytes batches

abbrev pub notes_of : List Batch → List Note
notes_of batches = flat_map (λ (b : Batch). b.notes) batches

abbrev pub rows_of : List Batch → List ℕ
rows_of batches = flat_map (λ (b : Batch). b.rows) batches
