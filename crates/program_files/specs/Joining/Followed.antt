-- Why a log is not followed any further where its file is read.
use Rattle.program_files.specs.Following.{IsRefusal}
use Rattle.program_files.specs.declared.following.End.{End}
use Rattle.program_files.specs.declared.following.End.TheVariants.{Refused, Unread, Unwritten, Memory}

-- it ends while a file is read
abbrev pub IsReadEnd : End → Type 0
IsReadEnd (Refused report) = IsRefusal report
IsReadEnd (Unread reason) = Unit {0}
IsReadEnd (Unwritten error) = ⊥
IsReadEnd Memory = Unit {0}
