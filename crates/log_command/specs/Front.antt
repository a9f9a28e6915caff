-- What no log's file begins with.
use Rattle.std.specs.Prelude.{◌≡◌, ◌⊎◌, ℕ, List, ◌++◌, length}
use Rattle.log_file.specs.Stored.{IsStored}
use Rattle.log_file.specs.declared.stored.Stored.{Stored}

-- no file that begins so is read as a log
abbrev pub BeginsNone : List ℕ → Type 0
BeginsNone front = (rest : List ℕ) (s : Stored) → length s.header.digest ≡ 32 → IsStored (front ++ rest) s → ⊥

-- how many bytes a header has in some layout
abbrev pub IsHeaderSize : ℕ → Type 0
IsHeaderSize size = (size ≡ 64) ⊎ ((size ≡ 72) ⊎ (size ≡ 80))
