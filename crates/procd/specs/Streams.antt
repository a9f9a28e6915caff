-- What a run gives for a command line: the exit status, and what stands on standard output and standard error.
use Rattle.std.specs.Prelude.{◌≡◌, ◌⊎◌, ℕ, Bool, true, false, List, ◌++◌, Option, Some, None, IfSome, codes, decimal}
use Rattle.disk_file.specs.declared.opening.FileKind.{FileKind}
use Rattle.run_log.specs.LogLines.{kind_refusal}
use Rattle.log_part.specs.declared.part.Part.{Part}
use Rattle.program_files.specs.Streams.{Stream, IsKept, Gets, Begins, TellsUnread, TellsUnwritten, TellsNotPrinted}
use Rattle.program_files.specs.Following.{IsFollowed}
use Rattle.procd.specs.Report.{IsReport}
use Rattle.command_line.specs.Task.{Wish, World, Run, Partitioned, Log, Follow, Audit, Picture, may_tell}

-- the file can't be read
abbrev pub IsReadFault : List ℕ → Stream → Stream → ℕ → Type 0
IsReadFault file out err status = (status ≡ 3) × IsKept out × TellsUnread file err

-- memory ran out
abbrev pub IsMemoryFault : Stream → Stream → ℕ → Type 0
IsMemoryFault out err status = (status ≡ 4) × IsKept out × Begins err (codes "memory\n")

-- the script beside a log or an object file can't be read
abbrev pub ScriptFails : Option (List ℕ) → Stream → Type 0
ScriptFails None err = ⊥
ScriptFails (Some path) err = TellsUnread path err

-- the file that keeps a run's log can't be read or written
abbrev pub LogFails : Option (List ℕ) → Stream → Type 0
LogFails None err = ⊥
LogFails (Some path) err = TellsUnread path err ⊎ TellsUnwritten path err

-- that of a partition's log can't
abbrev pub PartFails : Option (List ℕ) → Stream → Type 0
PartFails None err = ⊥
PartFails (Some log) err = (number : ℕ) × LogFails (Some (log ++ (codes "." ++ decimal number))) err

-- a further file can't be read or written
abbrev pub FurtherFails : Wish → Stream → Type 0
FurtherFails (World log audit script) err = ScriptFails script err
FurtherFails (Run workers tries stats audit strict results tell metrics trace log checkpoint over script) err = LogFails log err ⊎ ScriptFails script err
FurtherFails (Partitioned workers tries audit strict log script) err = PartFails log err ⊎ ScriptFails script err
FurtherFails (Log (Audit source script)) err = TellsUnread source err ⊎ ScriptFails script err
FurtherFails (Log (Picture path part)) err = TellsUnwritten path err
FurtherFails other err = ⊥

abbrev pub IsFurtherFault : Wish → Stream → Stream → ℕ → Type 0
IsFurtherFault wish out err status = (status ≡ 3) × IsKept out × FurtherFails wish err

-- there is a report, and standard output takes no more than the first bytes of its lines
abbrev pub IsWriteFault : Wish → List ℕ → Stream → Stream → ℕ → Type 0
IsWriteFault wish text out err status =
    (meant : ℕ) × (lines : List ℕ) × IsReport wish text meant lines × (status ≡ 3) × Begins out lines × TellsNotPrinted err

-- where there may be figures, or data components that are full, these are told
abbrev pub TellsIf : Bool → Stream → Type 0
TellsIf true err = (figures : List ℕ) × Begins err figures
TellsIf false err = IsKept err

-- the report's lines are written, and the status is its own
abbrev pub IsDone : Wish → List ℕ → Stream → Stream → ℕ → Type 0
IsDone wish text out err status = (lines : List ℕ) × IsReport wish text status lines × Gets out lines × TellsIf (may_tell wish) err

-- the file can't be read, memory ran out, a further file can't be read or written, standard output can't be written, or what was read is done
abbrev pub Ends : List ℕ → Wish → List ℕ → Stream → Stream → ℕ → Type 0
Ends file wish text out err status =
    IsReadFault file out err status
    ⊎ (IsMemoryFault out err status
    ⊎ (IsFurtherFault wish out err status ⊎ (IsWriteFault wish text out err status ⊎ IsDone wish text out err status)))

-- the events of a log's file, or an audit of it
abbrev pub IsLog : Wish → Type 0
IsLog (Log wanted) = Unit {0}
IsLog other = ⊥

-- it is refused by this line; memory ran out, or standard output takes no more than the line's first bytes
abbrev pub IsRefusedBy : List ℕ → Stream → Stream → ℕ → Type 0
IsRefusedBy line out err status =
    IsMemoryFault out err status
    ⊎ (((status ≡ 3) × Begins out line × TellsNotPrinted err) ⊎ ((status ≡ 1) × Gets out line × IsKept err))

-- no file of bytes stands in a log's place
abbrev pub IsNotAFile : Wish → Stream → Stream → ℕ → Type 0
IsNotAFile wish out err status = IsLog wish × ((kind : FileKind) × IsRefusedBy (kind_refusal kind) out err status)

-- from which part of its events on a log is followed, if it is
abbrev pub followed_part : Wish → Option Part
followed_part (Log (Follow part)) = Some part
followed_part other = None

-- a log that is followed is read to an end only from standard input, if there is memory for the command line
abbrev pub IsReadSo : List ℕ → Wish → Stream → Stream → ℕ → Type 0
IsReadSo file wish out err status = (followed_part wish ≡ None) ⊎ ((file ≡ codes "-") ⊎ IsMemoryFault out err status)

-- what a file has is done, which may be standard input; it isn't a file; or it is followed
abbrev pub Runs : List ℕ → Wish → Option (List ℕ) → Stream → Stream → ℕ → Type 0
Runs file wish input out err status =
    ((text : List ℕ) × (file ≡ codes "-" → IfSome input (λ known. text ≡ known)) × Ends file wish text out err status
    × IsReadSo file wish out err status)
    ⊎ ((¬ (file ≡ codes "-")) × (IsNotAFile wish out err status
    ⊎ ((part : Part) × (followed_part wish ≡ Some part) × IsFollowed file part out err status)))

-- nothing is written to standard output, and the status says that the command line is wrong, or that memory ran out
abbrev pub IsMisuse : Stream → ℕ → Type 0
IsMisuse out status = ((status ≡ 2) ⊎ (status ≡ 4)) × IsKept out
