-- The steps towards a run behind what a log's file has.
use Rattle.std.specs.Prelude.{◌≡◌, List, Option, Some, string_bytes}
use Rattle.tc_log.specs.declared.event.Event.{Event}
use Rattle.data_component.specs.Store.{Store}
use Rattle.log_file.specs.Bytes.{Rows}
use Rattle.tc_core.specs.Core.{Core}
use Rattle.std.specs.declared.alloc.Global.{Global}
use Rattle.std.specs.declared.string.String.{String}
use Rattle.run_log.specs.declared.recovering.Recovery.{Recovery}
use Rattle.run_log.specs.declared.recovering.Recovery.TheVariants.{Ready, Refused}
use Rattle.coming_back.specs.declared.coming.ComeBackFault.{ComeBackFault}
use Rattle.run_log.specs.LogLines.{back_refusal}
use Rattle.run_ground.specs.Kept.{FileJournal}
use Rattle.run_log.specs.Recovering.{IsLogRefusal, IsBackFrom}

-- why the log isn't gone on from
abbrev pub IsUnfit : ComeBackFault → Recovery (String Global) → Type 0
IsUnfit fault (Ready lines) = ⊥
IsUnfit fault (Refused report) = (back_refusal fault ≡ Some (string_bytes report.lines)) × (report.status ≡ 1)

-- the same as lines, and a journal
abbrev pub IsComing : Core → List Store → Option Rows → List Event → Core → List Store → FileJournal → Recovery (String Global) → Type 0
IsComing start empties base log back dcs journal (Ready lines) =
    IsBackFrom start empties base log back dcs (record { journal = journal; lines = lines })
IsComing start empties base log back dcs journal (Refused report) =
    IsLogRefusal start empties (string_bytes report.lines) × (report.status ≡ 1)
