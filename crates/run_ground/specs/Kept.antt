-- The journal that keeps a run's log in a file.
use Rattle.std.specs.Prelude.{ℕ, ◌<◌, if◌then◌else◌, List, length, reverse, Option, Some, None}
use Rattle.tc_log.specs.declared.event.Event.{Event}
use Rattle.disk_file.specs.declared.disk.DiskFile.{DiskFile}
use Rattle.disk_file.specs.Disk.{disk_bytes, left_of}
use Rattle.log_journal.specs.declared.journal.LogJournal.{LogJournal}
use Rattle.log_journal.specs.Keeping.{HasWritten}
use Rattle.run_ground.specs.declared.ground.Checkpoints.{Checkpoints}

abbrev pub FileJournal : Type 0
FileJournal = LogJournal DiskFile

-- where there is a journal, its file has this log on the disk, whole. A log is read with its newest event first
abbrev pub KeepsLog : Option FileJournal → List Event → Type 0
KeepsLog None events = Unit {0}
KeepsLog (Some j) events = HasWritten disk_bytes left_of j.header j.file (reverse events)

-- its file has more bytes than these
abbrev pub IsOver : Option FileJournal → Option ℕ → Type 0
IsOver None over = ⊥
IsOver (Some j) None = ⊥
IsOver (Some j) (Some bytes) = bytes < length (disk_bytes j.file.frames.device)

-- with how many bytes of its file the log begins anew behind the last call
abbrev pub over_at_end : Checkpoints → Option ℕ
over_at_end checkpoints = if checkpoints.at_end then Some 0 else checkpoints.over
