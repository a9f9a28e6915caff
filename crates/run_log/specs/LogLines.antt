-- The lines that say how a run goes on from a log's file, and why it doesn't.
use Rattle.std.specs.Prelude.{◌≡◌, ◌⊎◌, ℕ, ◌==◌, if◌then◌else◌, List, [], ◌++◌, length, Option, Some, None, codes, decimal}
use Rattle.std.specs.List.{flat_map}
use Rattle.frame_file.specs.declared.reading.FrameFault.TheVariants.{Device, Full, Damaged}
use Rattle.disk_file.specs.declared.opening.FileKind.{FileKind}
use Rattle.disk_file.specs.declared.opening.FileKind.TheVariants.{Directory, Fifo, Socket, CharacterDevice, BlockDevice, Unknown}
use Rattle.log_file.specs.declared.reading.OpenFault.{OpenFault}
use Rattle.log_file.specs.declared.reading.OpenFault.TheVariants.{Frames, Empty, Other, NoBase, NoBatch, Row}
use Rattle.log_file.specs.declared.header.Header.{Header}
use Rattle.log_file.specs.declared.stored.Stored.{Stored}
use Rattle.log_file.specs.Stored.{IsStored, IsFileFault}
use Rattle.procedure_digest.specs.Difference.{is_same_but_digest, other_line}
use Rattle.tc_core.specs.declared.checking.CheckFault.TheVariants as check
use Rattle.tc_core.specs.declared.recovery.RecoverFault.TheVariants.{Begun, DcCount, Unfit, Forgotten}
use Rattle.coming_back.specs.declared.coming.ComeBackFault.{ComeBackFault}
use Rattle.coming_back.specs.declared.coming.ComeBackFault.TheVariants.{Recover, NoRoom, Otherwise, Memory}
use Rattle.coming_back.specs.declared.resumed.Resumed.{Resumed}
use Rattle.coming_back.specs.declared.resumed.Resumed.TheVariants.{Ended, InDoubt}
use Rattle.state_lines.specs.OperationTexts.{outcome_text}

-- why a log's file isn't read, what is no log of the script aside; the disk's faults and want of memory have no line
abbrev pub open_refusal : OpenFault → Option (List ℕ)
open_refusal (Frames (Device e)) = None
open_refusal (Frames Full) = Some (codes "refused log Full\n")
open_refusal (Frames (Damaged number)) = Some (codes "refused log Damaged frame " ++ (decimal number ++ codes "\n"))
open_refusal Empty = Some (codes "refused log Empty\n")
open_refusal Other = None
open_refusal (NoBase number) = Some (codes "refused log NoBase frame " ++ (decimal number ++ codes "\n"))
open_refusal (NoBatch number) = Some (codes "refused log NoBatch frame " ++ (decimal number ++ codes "\n"))
open_refusal (Row place) = Some (codes "refused log L2 Kind " ++ (decimal place ++ codes "\n"))

-- a log of others, by what differs; of one that only other procedures keep from being gone on from, what lets them
abbrev pub others_line : Header → Header → List ℕ
others_line log script =
    if is_same_but_digest log script then codes "refused log Other digest: checkpoint it with its own procedures first\n" else other_line log script

-- a file that is no log of the script with this header: a log of others, by what differs in its header; or what isn't read by itself
pub data IsOtherRefusal (script : Header) (file : List ℕ) (lines : List ℕ) : Type 0 where
  Anothers : (s : Stored) → IsStored file s → lines ≡ others_line s.header script → IsOtherRefusal script file lines
  Nobodys : (fault : OpenFault) → IsFileFault file fault → lines ≡ codes "refused log Other\n" → IsOtherRefusal script file lines

-- the line of a fault, which of a log of others, and of no log, depends on the file
abbrev pub IsOpenRefusal : Header → List ℕ → OpenFault → List ℕ → Type 0
IsOpenRefusal script file fault lines = (open_refusal fault ≡ Some lines) ⊎ ((fault ≡ Other) × IsOtherRefusal script file lines)

-- what stands in the place of a log's file
abbrev pub kind_word : FileKind → List ℕ
kind_word Directory = codes "directory"
kind_word Fifo = codes "fifo"
kind_word Socket = codes "socket"
kind_word CharacterDevice = codes "character device"
kind_word BlockDevice = codes "block device"
kind_word Unknown = codes "unknown"

abbrev pub kind_refusal : FileKind → List ℕ
kind_refusal kind = codes "refused log NotAFile " ++ (kind_word kind ++ codes "\n")

-- why nothing goes on from a log; want of memory has no line
abbrev pub back_refusal : ComeBackFault → Option (List ℕ)
back_refusal (Recover (Unfit (check.LogIllegal place))) = Some (codes "refused log U1 LogIllegal place " ++ (decimal place ++ codes "\n"))
back_refusal (Recover (Unfit check.Memory)) = None
back_refusal (Recover Begun) = Some (codes "refused log Begun\n")
back_refusal (Recover DcCount) = Some (codes "refused log DcCount\n")
back_refusal (Recover (Forgotten dc)) = Some (codes "refused log Forgotten dc " ++ (decimal dc ++ codes "\n"))
back_refusal (NoRoom dc) = Some (codes "refused log NoRoom dc " ++ (decimal dc ++ codes "\n"))
back_refusal (Otherwise dc) = Some (codes "refused log Otherwise dc " ++ (decimal dc ++ codes "\n"))
back_refusal Memory = None

abbrev pub overfull_refusal : ℕ → List ℕ
overfull_refusal dc = codes "refused log NoRoom dc " ++ (decimal dc ++ codes "\n")

-- what came of a transaction that was open
abbrev pub resumed_line : Resumed → List ℕ
resumed_line (Ended r) =
    codes "resumed " ++ (decimal r.txn ++ (codes " " ++ (outcome_text r.outcome ++ (codes " at " ++ (decimal r.place ++ codes "\n")))))
resumed_line (InDoubt txn number) = codes "resumed " ++ (decimal txn ++ (codes " in doubt " ++ (decimal number ++ codes "\n")))

abbrev pub resumed_lines : List Resumed → List ℕ
resumed_lines resumed = flat_map resumed_line resumed

-- of a log without events there is nothing to tell
abbrev pub recovered_line : ℕ → ℕ → List ℕ
recovered_line events left =
    if events == 0 then [] else codes "recovered " ++ (decimal events ++ (codes " events, " ++ (decimal left ++ codes " open\n")))

abbrev pub dropped_line : ℕ → List ℕ → List ℕ
dropped_line bytes path =
    if bytes == 0 then [] else codes "dropped " ++ (decimal bytes ++ (codes " bytes to " ++ (path ++ codes ".dropped\n")))

-- how many events the log has, what was cut off, and what came of each transaction that was open
abbrev pub back_lines : ℕ → ℕ → List ℕ → List Resumed → List ℕ
back_lines events dropped path resumed = (recovered_line events (length resumed) ++ dropped_line dropped path) ++ resumed_lines resumed
