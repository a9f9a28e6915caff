-- What comes back from a log's file.
use Rattle.std.specs.Prelude.{◌≡◌, ℕ, Bool, true, false, if◌then◌else◌, List, length, map, reverse, position, Option, Some, None, codes, string_bytes}
use Rattle.std.specs.List.{All, list_any}
use Rattle.tc_log.specs.declared.event.Event.{Event}
use Rattle.history.specs.Places.{Begins}
use Rattle.transactions.specs.Legal.{Legal}
use Rattle.base_records.specs.declared.beginning.BaseFault.{BaseFault}
use Rattle.base_records.specs.Beginning.{HaveBegun, IsUnbegun}
use Rattle.base_records.specs.Lines.{base_fault_line}
use Rattle.data_component.specs.Store.{Store, restarted, is_overfull}
use Rattle.disk_file.specs.declared.opening.FileKind.{FileKind}
use Rattle.log_file.specs.declared.reading.OpenFault.{OpenFault}
use Rattle.log_file.specs.Bytes.{Rows}
use Rattle.log_file.specs.Reading.{IsOpenFault}
use Rattle.log_journal.specs.Keeping.{IsLogOf}
use Rattle.procedure_digest.specs.Header.{header_of}
use Rattle.tc_core.specs.Core.{Core, loaded_in}
use Rattle.tc_world.specs.Whole.{Whole}
use Rattle.tc_world.specs.OneAtATime.{EachIsKnown}
use Rattle.tc_world.specs.Lives.{HasLived}
use Rattle.coming_back.specs.declared.coming.ComeBackFault.{ComeBackFault}
use Rattle.coming_back.specs.declared.resumed.Resumed.{Resumed}
use Rattle.coming_back.specs.declared.resumed.Resumed.TheVariants as resumed
use Rattle.coming_back.specs.Coming.{serial_of, open_txns, in_doubt, IsResumed, at_rest, ComesFrom}
use Rattle.coming_back.specs.Faults.{IsFaultOf}
use Rattle.coming_back.specs.Serving.{AreServed as ArePerformed}
use Rattle.log_file.specs.Found.{base_in}
use Rattle.run_log.specs.declared.recovering.OpenLog.{OpenLog}
use Rattle.run_log.specs.declared.recovering.RecoveredRun.{RecoveredRun}
use Rattle.run_log.specs.declared.recovering.Recovery.{Recovery}
use Rattle.run_log.specs.declared.recovering.Recovery.TheVariants.{Ready, Refused}
use Rattle.run_log.specs.LogLines.{back_lines, IsOpenRefusal, kind_refusal, back_refusal, overfull_refusal}
use Rattle.run_ground.specs.Kept.{KeepsLog}
use Rattle.run_log.specs.declared.upgrade.StoredCheckpoint.{StoredCheckpoint}
use Rattle.run_log.specs.Checkpoint.{IsCheckpointIn}

-- ---- what is gone on from

-- the bytes of the log's file of a state in which nothing has happened say these events, behind these records if it was cut
abbrev pub IsLogFor : Core → List ℕ → Option Rows → List Event → Type 0
IsLogFor start file base log = IsLogOf (header_of (loaded_in start)) file base (reverse log)

-- from this log, and these data components, to which nothing had happened, came these: each data component is up and performed wires
-- since it restarted, each transaction that was open is told of, and those left open are in doubt. It goes on from any world that has
-- lived, with a log that begins with this one
pub record HasComeBack (start : Core) (empties : List Store) (log : List Event) (back : Core) (dcs : List Store) (resumed : List Resumed)
    : Type 0 where
  pub legal : Legal start.procs log
  pub begins : Begins log back.events
  pub same : loaded_in back ≡ loaded_in start
  pub known : EachIsKnown (at_rest back dcs)
  pub served : ArePerformed (map restarted empties) dcs
  pub told : map serial_of resumed ≡ open_txns log
  pub doubts : in_doubt resumed ≡ open_txns back.events
  pub each : All (IsResumed log back) resumed

-- a world of what came back has lived, where a world has whose log began with this one
pub record GoesOn (start : Core) (empties : List Store) (log : List Event) (back : Core) (dcs : List Store) : Type 0 where
  pub lived : (w : Whole) → ComesFrom w log start empties → HasLived (at_rest back dcs)

-- it stays open
abbrev pub is_in_doubt : Resumed → Bool
is_in_doubt (resumed.Ended receipt) = false
is_in_doubt (resumed.InDoubt txn number) = true

-- the first data component that has more records than it has room for, unless a transaction is in doubt
abbrev pub overfull : List Store → List Resumed → Option ℕ
overfull dcs resumed = if list_any is_in_doubt resumed then None else position is_overfull dcs

-- ---- what is printed

-- another process has the file open; or there is no file of bytes; or it isn't read; or data components don't begin with the records that it
-- begins with, also of one that says nothing of its procedures; or its log isn't gone on from, or leaves a data component with more records
-- than it has room for
pub data IsLogRefusal (start : Core) (empties : List Store) (lines : List ℕ) : Type 0 where
  Busy : lines ≡ codes "refused log Busy\n" → IsLogRefusal start empties lines
  NotAFile : (kind : FileKind) → lines ≡ kind_refusal kind → IsLogRefusal start empties lines
  Unread : (file : List ℕ) (fault : OpenFault) → IsOpenFault (header_of (loaded_in start)) file fault
      → IsOpenRefusal (header_of (loaded_in start)) file fault lines → IsLogRefusal start empties lines
  Baseless : (file : List ℕ) (base : Option Rows) (log : List Event) (fault : BaseFault) → IsLogFor start file base log
      → IsUnbegun base empties fault → lines ≡ base_fault_line fault → IsLogRefusal start empties lines
  Crowded : (file : List ℕ) (c : StoredCheckpoint) (fault : BaseFault) → IsCheckpointIn (header_of (loaded_in start)) file c
      → IsUnbegun (Some c.base.items) empties fault → lines ≡ base_fault_line fault → IsLogRefusal start empties lines
  Unfit : (file : List ℕ) (base : Option Rows) (log : List Event) (begun : List Store) (after : Core) (dcs : List Store) (fault : ComeBackFault)
      → IsLogFor start file base log → HaveBegun base (reverse log) empties begun → IsFaultOf start log (length begun) after dcs fault
      → back_refusal fault ≡ Some lines → IsLogRefusal start empties lines
  Overfull : (file : List ℕ) (base : Option Rows) (log : List Event) (begun : List Store) (back : Core) (dcs : List Store) (resumed : List Resumed)
      → IsLogFor start file base log → HaveBegun base (reverse log) empties begun → HasComeBack start begun log back dcs resumed
      → (d : ℕ) → overfull dcs resumed ≡ Some d → lines ≡ overfull_refusal d → IsLogRefusal start empties lines

-- ---- what comes back

-- the file has this log, which the journal keeps
pub record IsOpened (start : Core) (o : OpenLog) : Type 0 where
  pub file : List ℕ
  pub is_log : IsLogFor start file (base_in o.base) o.log.events
  pub kept : KeepsLog (Some o.journal) o.log.events

-- or the file is refused
abbrev pub IsOpening : Core → List Store → Recovery OpenLog → Type 0
IsOpening start empties (Ready o) = IsOpened start o
IsOpening start empties (Refused report) = IsLogRefusal start empties (string_bytes report.lines) × (report.status ≡ 1)

-- what came back from the log, with its lines, and the journal that keeps its log
pub record IsBack (start : Core) (empties : List Store) (log : List Event) (back : Core) (dcs : List Store) (b : RecoveredRun) : Type 0 where
  pub resumed : List Resumed
  pub came_back : HasComeBack start empties log back dcs resumed
  pub goes_on : GoesOn start empties log back dcs
  pub kept : KeepsLog (Some b.journal) back.events
  pub dropped : ℕ
  pub path : List ℕ
  pub lines : string_bytes b.lines ≡ back_lines (length log) dropped path resumed

-- data components began with the records before the log, and what came back from it then, with its lines, and the journal that keeps its log
pub record IsBackFrom (start : Core) (empties : List Store) (base : Option Rows) (log : List Event) (back : Core) (dcs : List Store) (b : RecoveredRun)
    : Type 0 where
  pub begun : List Store
  pub begins : HaveBegun base (reverse log) empties begun
  pub is_back : IsBack start begun log back dcs b

-- a log was opened and gone on from
pub record IsBackTo (start : Core) (empties : List Store) (back : Core) (dcs : List Store) (b : RecoveredRun) : Type 0 where
  pub file : List ℕ
  pub base : Option Rows
  pub log : List Event
  pub is_log : IsLogFor start file base log
  pub from : IsBackFrom start empties base log back dcs b

-- what comes back from a log that was opened, or why it isn't gone on from
abbrev pub IsGoingBack : Core → List Store → Option Rows → List Event → Core → List Store → Recovery RecoveredRun → Type 0
IsGoingBack start empties base log back dcs (Ready b) = IsBackFrom start empties base log back dcs b
IsGoingBack start empties base log back dcs (Refused report) =
    IsLogRefusal start empties (string_bytes report.lines) × (report.status ≡ 1)

-- what comes back from a file, or why it is refused
abbrev pub IsBegun : Core → List Store → Core → List Store → Recovery RecoveredRun → Type 0
IsBegun start empties back dcs (Ready b) = IsBackTo start empties back dcs b
IsBegun start empties back dcs (Refused report) = IsLogRefusal start empties (string_bytes report.lines) × (report.status ≡ 1)
