-- A run whose log begins anew, and what is printed of it.
use Rattle.std.specs.Prelude.{◌≡◌, ℕ, List, [], ◌∷◌, ◌++◌, reverse, Option, Some, codes, decimal}
use Rattle.tc_log.specs.declared.event.Event.{Event}
use Rattle.history.specs.Anew.{begun}
use Rattle.history.specs.Calls.{admitted}
use Rattle.data_component.specs.Sorted.{Rows}
use Rattle.data_component.specs.Keeping.{AreRowsOf}
use Rattle.data_component.specs.Store.{Store}
use Rattle.disk_file.specs.Disk.{disk_bytes, left_of}
use Rattle.log_file.specs.declared.header.Header.{Header}
use Rattle.log_journal.specs.Keeping.{HasWrittenBehind}
use Rattle.tc_core.specs.Core.{Core}
use Rattle.tc_world.specs.Cutting.{IsCut, IsUncut}
use Rattle.tc_world.specs.declared.step.Illegal.TheVariants.{NotCut, Unforgettable as CantForget}
use Rattle.state_lines.specs.RefusalTexts.{checkpoint_fault_text}
use Rattle.run_log.specs.declared.anew.Bar.{Bar}
use Rattle.run_log.specs.declared.anew.Bar.TheVariants.{Fault, Unforgettable, InTheWay}
use Rattle.run_log.specs.declared.anew.Renewal.{Renewal}
use Rattle.run_log.specs.declared.anew.Renewal.TheVariants.{Unwanted, Begun, Barred}
use Rattle.run_ground.specs.Kept.{FileJournal, IsOver}

-- ---- the file

-- the rows of these data components, one behind another
abbrev pub AreAllRows : List Store → Rows → Type 0
AreAllRows [] rows = rows ≡ []
AreAllRows (s ∷ dcs) rows = (own : Rows) × (others : Rows) × (rows ≡ own ++ others) × AreRowsOf own s.base s.list × AreAllRows dcs others

-- the journal's file has this header, these records and, behind them, this log on the disk, whole
abbrev pub HasWrittenAnew : Header → Rows → List Event → FileJournal → Type 0
HasWrittenAnew h base events j = (j.header ≡ h) × HasWrittenBehind disk_bytes left_of h (Some base) j.file (reverse events)

-- the journal's file has these data components' rows and, behind them, this log on the disk, whole
pub record HasBegunAnew (dcs : List Store) (events : List Event) (j : FileJournal) : Type 0 where
  pub base : Rows
  pub rows : AreAllRows dcs base
  pub written : HasWrittenBehind disk_bytes left_of j.header (Some base) j.file (reverse events)

-- ---- what came of it

-- the log isn't cut for this reason; of a file in the way nothing is said
abbrev pub IsBar : Core → List Store → Bar → Type 0
IsBar c dcs (Fault fault) = IsUncut c dcs (NotCut fault)
IsBar c dcs (Unforgettable d) = IsUncut c dcs (CantForget d)
IsBar c dcs InTheWay = Unit {0}

-- the transaction component and its data components are as they were, or its log is cut
abbrev pub IsRenewal : Core → List Store → Core → List Store → Renewal → Type 0
IsRenewal c dcs c' dcs' Unwanted = (c' ≡ c) × (dcs' ≡ dcs)
IsRenewal c dcs c' dcs' Begun = IsCut c dcs c' dcs'
IsRenewal c dcs c' dcs' (Barred bar) = (c' ≡ c) × (dcs' ≡ dcs) × IsBar c dcs bar

-- the log goes on without a try only where its file hasn't more bytes than these
abbrev pub IsHeeded : Option FileJournal → Option ℕ → Renewal → Type 0
IsHeeded journal over renewal = renewal ≡ Unwanted → IsOver journal over → ⊥

-- ---- what is printed

-- behind how many admissions and numbers the log begins, or why it doesn't begin anew
abbrev pub renewal_line : List Event → Renewal → List ℕ
renewal_line events Unwanted = []
renewal_line events Begun = codes "checkpoint " ++ (decimal (admitted events) ++ (codes " " ++ (decimal (begun events) ++ codes "\n")))
renewal_line events (Barred (Fault fault)) = codes "no checkpoint " ++ (checkpoint_fault_text fault ++ codes "\n")
renewal_line events (Barred (Unforgettable d)) = codes "no checkpoint NoRoom dc " ++ (decimal d ++ codes "\n")
renewal_line events (Barred InTheWay) = codes "no checkpoint LOG.new\n"
