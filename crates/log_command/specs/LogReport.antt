-- What `log` prints of a log's file, and the exit status.
use Rattle.std.specs.Prelude.{◌≡◌, ℕ, ◌==◌, Bool, true, false, if◌then◌else◌, List, [], ◌++◌, length, drop, map, reverse, Option, Some, None, codes, decimal}
use Rattle.tc_log.specs.declared.event.Event.{Event}
use Rattle.frame_file.specs.declared.reading.FrameFault.TheVariants.{Damaged}
use Rattle.log_file.specs.declared.reading.OpenFault.{OpenFault}
use Rattle.log_file.specs.declared.reading.OpenFault.TheVariants.{Frames, Empty, Other, NoBase, NoBatch, Row}
use Rattle.log_file.specs.declared.header.Header.{Header}
use Rattle.log_file.specs.declared.stored.Stored.{Stored}
use Rattle.log_file.specs.Bytes.{of_session}
use Rattle.log_file.specs.Stored.{IsStored, IsFileFault}
use Rattle.log_file.specs.Found.{base_in}
use Rattle.verifier.specs.Checked.{Checked}
use Rattle.transactions.specs.Legal.{Legal}
use Rattle.data_component.specs.Sorted.{Rows}
use Rattle.data_component.specs.Store.{Store, restarted}
use Rattle.tc_core.specs.declared.checking.CheckFault.TheVariants.{LogIllegal}
use Rattle.tc_core.specs.declared.recovery.RecoverFault.TheVariants.{Unfit, Forgotten}
use Rattle.tc_core.specs.Core.{Core, loaded_in}
use Rattle.serial.specs.Audit.{IsAgreed}
use Rattle.tc_world.specs.Whole.{Whole}
use Rattle.tc_world.specs.OneAtATime.{EachIsKnown}
use Rattle.coming_back.specs.declared.coming.ComeBackFault.{ComeBackFault}
use Rattle.coming_back.specs.declared.coming.ComeBackFault.TheVariants.{Recover, NoRoom, Otherwise, Memory}
use Rattle.coming_back.specs.Serving.{AreRedone}
use Rattle.coming_back.specs.Coming.{at_rest, ComesFrom}
use Rattle.coming_back.specs.Faults.{HasLog, IsFaultOf}
use Rattle.procedure_digest.specs.Header.{header_of}
use Rattle.procedure_digest.specs.Difference.{other_line}
use Rattle.scripts.specs.Reading.{Contents}
use Rattle.script_loading.specs.Loading.{Beginning, with_procedures, empty_core, empty_store}
use Rattle.state_lines.specs.AuditLines.{AddsAudit}
use Rattle.state_lines.specs.RowLines.{row_lines}
use Rattle.base_records.specs.declared.beginning.BaseFault.{BaseFault}
use Rattle.log_part.specs.declared.part.Part.{Part}
use Rattle.log_part.specs.Part.{first_of}
use Rattle.log_command.specs.EventLines.{event_lines}
use Rattle.base_records.specs.Beginning.{HaveBegun, IsUnbegun}
use Rattle.base_records.specs.Lines.{base_fault_line}

-- ---- lines

-- why the file isn't read; want of memory isn't said here
abbrev pub refusal_line : OpenFault → Option (List ℕ)
refusal_line (Frames (Damaged number)) = Some (codes "refused log Damaged frame " ++ (decimal number ++ codes "\n"))
refusal_line (Frames other) = None
refusal_line Empty = Some (codes "refused log Empty\n")
refusal_line Other = Some (codes "refused log Other\n")
refusal_line (NoBase number) = Some (codes "refused log NoBase frame " ++ (decimal number ++ codes "\n"))
refusal_line (NoBatch number) = Some (codes "refused log NoBatch frame " ++ (decimal number ++ codes "\n"))
refusal_line (Row place) = Some (codes "refused log L2 Kind " ++ (decimal place ++ codes "\n"))

-- how many bytes at the end are no whole frame
abbrev pub unfinished_line : ℕ → List ℕ
unfinished_line bytes = if bytes == 0 then [] else codes "unfinished " ++ (decimal bytes ++ codes " bytes\n")

-- the rows with which the log begins, where they are wanted
abbrev pub base_lines : Bool → Option Rows → List ℕ
base_lines true (Some rows) = row_lines rows
base_lines true None = []
base_lines false base = []

-- a line for each event of a part of these, the oldest first: those of all, but for the ones before it
abbrev pub part_lines : Part → List Event → List ℕ
part_lines part events = event_lines (first_of part (length events)) (drop (first_of part (length events)) events)

-- the events of a part, the oldest first, and the rows with which the log begins
abbrev pub stored_lines : Part → Bool → Stored → List ℕ
stored_lines part rows s = part_lines part (reverse s.log.events) ++ (base_lines rows (base_in s.base) ++ unfinished_line s.unfinished)

-- why data components aren't brought to where the log left them: its first event that isn't allowed, or one that lost what the log has no
-- more, has no room for what the log says that it did, or does otherwise
abbrev pub unfit_line : ComeBackFault → Option (List ℕ)
unfit_line (Recover (Unfit (LogIllegal place))) = Some (codes "refused U1 LogIllegal place " ++ (decimal place ++ codes "\n"))
unfit_line (Recover (Forgotten dc)) = Some (codes "refused log Forgotten dc " ++ (decimal dc ++ codes "\n"))
unfit_line (Recover other) = None
unfit_line (NoRoom dc) = Some (codes "refused log NoRoom dc " ++ (decimal dc ++ codes "\n"))
unfit_line (Otherwise dc) = Some (codes "refused log Otherwise dc " ++ (decimal dc ++ codes "\n"))
unfit_line Memory = None

-- ---- the events alone

-- the file isn't read
pub record IsUnread (file : List ℕ) (status : ℕ) (lines : List ℕ) : Type 0 where
  pub fault : OpenFault
  pub why : IsFileFault file fault
  pub line : refusal_line fault ≡ Some lines
  pub status_is : status ≡ 1

pub data IsListing (part : Part) (rows : Bool) (file : List ℕ) (status : ℕ) (lines : List ℕ) : Type 0 where
  Listed : (s : Stored) → IsStored file s → lines ≡ stored_lines part rows s → status ≡ 0 → IsListing part rows file status lines
  Unread : IsUnread file status lines → IsListing part rows file status lines

-- ---- beside procedures and data components

-- from data components to which nothing had happened since their rows came these: each is up, and performed wires of its redo alone since it restarted. The
-- state has the log, and nothing else has changed of it; where a world that has lived began with this log, they agree
pub record AreBrought (start : Core) (begun : List Store) (log : List Event) (dcs : List Store) : Type 0 where
  pub back : Core
  pub legal : Legal start.procs log
  pub has_log : HasLog start log back
  pub known : EachIsKnown (at_rest back dcs)
  pub redone : AreRedone (map restarted begun) dcs
  pub agreed : (w : Whole) → ComesFrom w log start begun → IsAgreed start.procs log dcs

-- what an audit of the log and of these data components finds, and how many bytes at the end are no whole frame
pub record AreAuditLines (ps : List Checked) (s : Stored) (dcs : List Store) (status : ℕ) (lines : List ℕ) : Type 0 where
  pub found : List ℕ
  pub sound : Bool
  pub audit : AddsAudit ps s.log.events dcs [] found sound
  pub lines_are : lines ≡ found ++ unfinished_line s.unfinished
  pub status_is : status ≡ (if sound then 0 else 1)

abbrev pub IsUnfit : ComeBackFault → ℕ → List ℕ → Type 0
IsUnfit fault status lines = (unfit_line fault ≡ Some lines) × (status ≡ 1)

-- why the empty data components don't begin with the rows with which the log begins, or why those that did aren't brought to where it left
-- them; or what an audit finds of those that were
pub data IsChecked (start : Core) (empties : List Store) (s : Stored) (status : ℕ) (lines : List ℕ) : Type 0 where
  NotBegun : (fault : BaseFault) → IsUnbegun (base_in s.base) empties fault → lines ≡ base_fault_line fault → status ≡ 1
      → IsChecked start empties s status lines
  NotBrought : (begun : List Store) → HaveBegun (base_in s.base) (reverse s.log.events) empties begun
      → (back : Core) (dcs : List Store) (fault : ComeBackFault) → IsFaultOf start s.log.events (length begun) back dcs fault
      → IsUnfit fault status lines → IsChecked start empties s status lines
  Audited : (begun dcs : List Store) → HaveBegun (base_in s.base) (reverse s.log.events) empties begun
      → AreBrought start begun s.log.events dcs → AreAuditLines start.procs s dcs status lines → IsChecked start empties s status lines

-- that of these procedures, and of the session that the file says
abbrev pub own_header : Core → Stored → Header
own_header start s = of_session (header_of (loaded_in start)) s.header.session

-- the file isn't read, it is another's log, or a log of these procedures
pub data IsBeside (file : List ℕ) (start : Core) (empties : List Store) (status : ℕ) (lines : List ℕ) : Type 0 where
  NotRead : IsUnread file status lines → IsBeside file start empties status lines
  Anothers : (s : Stored) → IsStored file s → ¬ (s.header ≡ own_header start s)
      → lines ≡ other_line s.header (own_header start s) → status ≡ 1 → IsBeside file start empties status lines
  Own : (s : Stored) → IsStored file s → s.header ≡ own_header start s → IsChecked start empties s status lines
      → IsBeside file start empties status lines

abbrev pub IsAuditBy : Option (List ℕ) → Contents → List ℕ → ℕ → List ℕ → Type 0
IsAuditBy (Some refusal) contents file status lines = (status ≡ 1) × (lines ≡ refusal)
IsAuditBy None contents file status lines =
    IsBeside file (with_procedures (empty_core (length contents.dcs)) contents.procedures) (map empty_store contents.dcs) status lines

-- where the script or the object file with it is refused, the log's file isn't looked at
abbrev pub IsAudit : List ℕ → Beginning → ℕ → List ℕ → Type 0
IsAudit file b status lines = IsAuditBy b.refusal b.contents file status lines
