-- What opening a log's file and coming back from its log come to.
use Rattle.std.specs.Prelude.{string_bytes}
use Rattle.std.proofs.Common.{◌≡◌, List, ℕ, Option, Some, length, reverse}
use Rattle.tc_log.specs.declared.event.Event.{Event}
use Rattle.data_component.specs.Store.{Store}
use Rattle.tc_core.specs.Core.{Core}
use Rattle.coming_back.specs.declared.coming.ComeBackFault.{ComeBackFault}
use Rattle.coming_back.specs.Faults.{IsFaultOf}
use Rattle.std.specs.declared.alloc.Global.{Global}
use Rattle.std.specs.declared.string.String.{String}
use Rattle.run_log.specs.declared.recovering.OpenLog.{OpenLog}
use Rattle.run_log.specs.declared.recovering.RecoveredRun.{RecoveredRun}
use Rattle.run_log.specs.declared.recovering.Recovery.{Recovery}
use Rattle.run_log.specs.declared.recovering.Recovery.TheVariants.{Ready, Refused}
use Rattle.coming_back.specs.declared.resumed.Resumed.{Resumed}
use Rattle.report_texts.specs.declared.output.Output.{Output}
use Rattle.run_log.specs.LogLines.{overfull_refusal}
use Rattle.run_ground.specs.Kept.{FileJournal}
use Rattle.run_log.specs.Recovering.{IsLogFor, HasComeBack, overfull, Baseless, Unfit, Overfull, IsBegun, IsGoingBack, IsOpened}
use Rattle.base_records.specs.declared.beginning.BaseFault.{BaseFault}
use Rattle.base_records.specs.Beginning.{HaveBegun, IsUnbegun}
use Rattle.base_records.specs.Lines.{base_fault_line}
use Rattle.log_file.specs.Bytes.{Rows}
use Rattle.log_file.specs.Found.{base_in}
use Rattle.run_log.specs.Joining.Opening.{IsUnfit, IsComing}

pub baseless_comes : (start : Core) (empties : List Store) (file : List ℕ) (base : Option Rows) (log : List Event) (after : Core) (dcs : List Store)
    (journal : FileJournal) (report : Output) (fault : BaseFault) → IsLogFor start file base log → IsUnbegun base empties fault
    → string_bytes report.lines ≡ base_fault_line fault → report.status ≡ 1
    → IsComing start empties base log after dcs journal (Refused report)
baseless_comes start empties file base log after dcs journal report fault is_log why line status = (Baseless file base log fault is_log why line, status)

pub unfit_comes : (start : Core) (empties : List Store) (file : List ℕ) (base : Option Rows) (log : List Event) (begun : List Store) (after : Core)
    (dcs : List Store) (journal : FileJournal) (fault : ComeBackFault) (x : Recovery (String Global)) → IsLogFor start file base log
    → HaveBegun base (reverse log) empties begun → IsFaultOf start log (length begun) after dcs fault → IsUnfit fault x
    → IsComing start empties base log after dcs journal x
unfit_comes start empties file base log begun after dcs journal fault (Ready lines) is_log begins why h = absurd h
unfit_comes start empties file base log begun after dcs journal fault (Refused report) is_log begins why h =
    (Unfit file base log begun after dcs fault is_log begins why h.0, h.1)

pub overfull_comes : (start : Core) (empties : List Store) (file : List ℕ) (base : Option Rows) (log : List Event) (begun : List Store) (back : Core)
    (dcs : List Store) (resumed : List Resumed) (journal : FileJournal) (report : Output) (d : ℕ) → IsLogFor start file base log
    → HaveBegun base (reverse log) empties begun → HasComeBack start begun log back dcs resumed → overfull dcs resumed ≡ Some d
    → string_bytes report.lines ≡ overfull_refusal d → report.status ≡ 1
    → IsComing start empties base log back dcs journal (Refused report)
overfull_comes start empties file base log begun back dcs resumed journal report d is_log begins came over line status =
    (Overfull file base log begun back dcs resumed is_log begins came d over line, status)

pub begun_by : (start : Core) (empties : List Store) (back : Core) (dcs : List Store) (opened : OpenLog) (x : Recovery RecoveredRun) → IsOpened start opened
    → IsGoingBack start empties (base_in opened.base) opened.log.events back dcs x → IsBegun start empties back dcs x
begun_by start empties back dcs opened (Ready b) o h =
    record { file = o.file; base = base_in opened.base; log = opened.log.events; is_log = o.is_log; from = h }
begun_by start empties back dcs opened (Refused report) o h = h
