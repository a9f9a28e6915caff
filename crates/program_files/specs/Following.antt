-- What is written where a log is followed, and why it isn't any further.
use Rattle.std.specs.Prelude.{◌≡◌, ℕ, List, [], ◌∷◌, ◌++◌, take, Option, codes, string_bytes}
use Rattle.report_texts.specs.declared.output.Output.{Output}
use Rattle.log_part.specs.declared.part.Part.{Part}
use Rattle.log_command.specs.declared.following.Seam.{Seam}
use Rattle.log_command.specs.LogReport.{IsUnread}
use Rattle.log_command.specs.Following.{AreLines, seam_line}
use Rattle.program_files.specs.Streams.{Stream, stream, IsKept, Gets, Begins, TellsUnread, TellsNotPrinted}
use Rattle.program_files.specs.declared.following.End.{End}
use Rattle.program_files.specs.declared.following.End.TheVariants as end

-- the first bytes of lines that say what wasn't seen between two logs, so many of each
abbrev pub seam_parts : List (Seam × ℕ) → List ℕ
seam_parts [] = []
seam_parts (part ∷ parts) = take part.1 (seam_line part.0) ++ seam_parts parts

-- nothing else is written
abbrev pub TellsSeams : Stream → Type 0
TellsSeams err = (parts : List (Seam × ℕ)) × Gets err (seam_parts parts)

-- the report is that of some file that isn't read as a log
abbrev pub IsRefusal : Output → Type 0
IsRefusal report = (file : List ℕ) × IsUnread file report.status (string_bytes report.lines)

-- these lines are written, or their first bytes where standard output takes no more
abbrev pub EndsBy : (printed : List ℕ) → Stream → End → Type 0
EndsBy printed out (end.Refused report) = IsRefusal report × Gets out printed
EndsBy printed out (end.Unread reason) = Gets out printed
EndsBy printed out (end.Unwritten error) = Begins out printed
EndsBy printed out end.Memory = Gets out printed

-- these are lines of events, and what wasn't seen between two logs is told
abbrev pub EndsBehind : Part → Stream → Stream → End → Type 0
EndsBehind part out err e = (printed : List ℕ) × AreLines part printed × TellsSeams err × EndsBy printed out e

-- what is written behind these lines of events, where no more come: the refusal of a file that isn't read as a log, why it can't be read or
-- standard output be written, or that memory ran out
pub data StopsBehind (path printed : List ℕ) (out err : Stream) (status : ℕ) : Type 0 where
  Refused : (file lines : List ℕ) → IsUnread file status lines → Gets out (printed ++ lines) → IsKept err
      → StopsBehind path printed out err status
  RefusedInPart : (file lines : List ℕ) (meant : ℕ) → IsUnread file meant lines → status ≡ 3 → Begins out (printed ++ lines)
      → TellsNotPrinted err → StopsBehind path printed out err status
  NotPrinted : status ≡ 3 → Begins out printed → TellsNotPrinted err → StopsBehind path printed out err status
  NotRead : status ≡ 3 → Gets out printed → TellsUnread path err → StopsBehind path printed out err status
  OutOfMemory : status ≡ 4 → Gets out printed → Begins err (codes "memory\n") → StopsBehind path printed out err status

-- the lines of a log's events from a part on, also of those that came, and what was told meanwhile of what wasn't seen; it doesn't end by itself
pub record IsFollowed (path : List ℕ) (part : Part) (out err : Stream) (status : ℕ) : Type 0 where
  pub printed : List ℕ
  pub are : AreLines part printed
  pub told : Option (List ℕ)
  pub seams : TellsSeams (stream err.old told)
  pub stops : StopsBehind path printed out (stream told err.new) status
