-- What stands on a stream, and what is told there of a file that can't be read or written.
use Rattle.std.specs.Prelude.{◌≡◌, ◌⊎◌, ℕ, List, ◌++◌, take, Option, Result, Ok, Err, codes}
use Rattle.std.specs.Io.KnownBytes.{Appends}

-- what a stream held before and holds afterwards, where that is known
pub record Stream : Type 0 where
  pub old : Option (List ℕ)
  pub new : Option (List ℕ)

abbrev pub stream : Option (List ℕ) → Option (List ℕ) → Stream
stream old new = record { old = old; new = new }

-- nothing was written
abbrev pub IsKept : Stream → Type 0
IsKept s = s.new ≡ s.old

-- how many bytes a call wrote: none where it failed
abbrev pub written : {E : Type 0} → Result ℕ E → ℕ
written (Ok n) = n
written (Err error) = 0

-- the text was written
abbrev pub Gets : Stream → List ℕ → Type 0
Gets s text = Appends s.old s.new text

-- the text was written, or its first bytes where the stream takes no more
abbrev pub Begins : Stream → List ℕ → Type 0
Begins s text = (n : ℕ) × Gets s (take n text)

-- `cannot read FILE` and `cannot write FILE`, with what stands behind it: `: ` and the reason, where it is known
abbrev pub cannot_read_line : List ℕ → List ℕ → List ℕ
cannot_read_line file why = codes "cannot read " ++ (file ++ (why ++ codes "\n"))

abbrev pub cannot_write_line : List ℕ → List ℕ → List ℕ
cannot_write_line file why = codes "cannot write " ++ (file ++ (why ++ codes "\n"))

-- a line of what can't be done, with which file, and perhaps why
abbrev pub IsFaultLine : List ℕ → List ℕ → List ℕ → Type 0
IsFaultLine what file line = (why : List ℕ) × (line ≡ what ++ (file ++ (why ++ codes "\n")))

-- it is told, for some reason
abbrev pub TellsUnread : List ℕ → Stream → Type 0
TellsUnread file err = (why : List ℕ) × Begins err (cannot_read_line file why)

abbrev pub TellsUnwritten : List ℕ → Stream → Type 0
TellsUnwritten file err = (why : List ℕ) × Begins err (cannot_write_line file why)

-- `cannot write`, of standard output
abbrev pub TellsNotPrinted : Stream → Type 0
TellsNotPrinted err = (why : List ℕ) × Begins err (codes "cannot write" ++ (why ++ codes "\n"))

-- a file fault that is told so, or want of memory for telling it
abbrev pub IsToldOrNoMemory : Type 0 → Stream → ℕ → Type 0
IsToldOrNoMemory Told err status = ((status ≡ 3) × Told) ⊎ ((status ≡ 4) × Begins err (codes "memory\n"))
