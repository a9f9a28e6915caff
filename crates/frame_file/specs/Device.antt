-- What the calls of a device do to its file, and what a crash may do between two syncs.
use Rattle.std.specs.Prelude.{◌<◌, ◌≡◌, ◌⊎◌, ℕ, ◌*◌, ◌≤◌, List, ◌++◌, length, take, drop, replicate, Result, IsErrOf}
use Rattle.frame_file.specs.declared.device.DeviceError.{DeviceError}
use Rattle.frame_file.specs.declared.device.DeviceError.TheVariants.{Failed}

-- the word at this place, counted in words of 8 bytes, as far as it is there
abbrev pub word_at : ℕ → List ℕ → List ℕ
word_at k bytes = take 8 (drop (8 * k) bytes)

-- what is there of a word that was being written: its first bytes, or zeros (a hole)
abbrev pub IsLeft : List ℕ → List ℕ → Type 0
IsLeft word there = (there ≡ take (length there) word) ⊎ (there ≡ take (length there) (replicate 8 0))

-- after an append that a crash cuts short: no more bytes than were to be written, in words of which each was written or is a hole
pub record Torn (bytes old new : List ℕ) : Type 0 where
  pub tail : List ℕ
  pub is : new ≡ old ++ tail
  pub short : length tail ≤ length bytes
  pub words : (k : ℕ) → IsLeft (word_at k bytes) (word_at k tail)

-- after a cut: some length between, or nothing is cut off
pub record Cut (n : ℕ) (old new : List ℕ) : Type 0 where
  pub no_shorter : (n ≤ length new) ⊎ (new ≡ old)
  pub front : take (length new) old ≡ new

-- what is cut off is kept first: it stands behind what was kept before, or a crash leaves no less than it did
abbrev pub KeepsFirst : List ℕ → List ℕ → List ℕ → (List ℕ → Type 0) → (List ℕ → Type 0) → Type 0
KeepsFirst end was kept old new = (kept ≡ was ++ end) ⊎ ((c : List ℕ) → new c → old c)

-- each new outcome of a crash is an old outcome after a step
abbrev pub Follows : (List ℕ → List ℕ → Type 0) → (List ℕ → Type 0) → (List ℕ → Type 0) → Type 0
Follows step old new = (c : List ℕ) → new c → (d : List ℕ) × old d × step d c

-- a crash leaves this and nothing else
abbrev pub Only : List ℕ → (List ℕ → Type 0) → Type 0
Only file outcomes = (c : List ℕ) → outcomes c → c ≡ file

-- time goes on: a crash since t might have left what it might have left before, or what it may leave now
pub record Elapses (before now : ℕ) (past since : ℕ → List ℕ → Type 0) (may_leave : List ℕ → Type 0) : Type 0 where
  pub later : before ≤ now
  pub nothing_else : (t : ℕ) (c : List ℕ) → t ≤ before → since t c → past t c ⊎ may_leave c
  pub keeps : (t : ℕ) (c : List ℕ) → t ≤ before → past t c → since t c

-- a crash at any moment since old leaves a file that has P
pub record LeavesOnly {D : Type 0} (moment : D → ℕ) (left_since : D → ℕ → List ℕ → Type 0)
    (old new : D) (P : List ℕ → Type 0) : Type 0 where
  pub later : moment old ≤ moment new
  pub each : (c : List ℕ) → left_since new (moment old) c → P c
  -- for a run that began earlier
  pub before : (t : ℕ) (c : List ℕ) → t ≤ moment old → left_since new t c → left_since old t c ⊎ P c

-- `Failed` is told only where the disk has failed since
pub record HasCause {T : Type 0} (before now : ℕ) (result : Result T DeviceError) : Type 0 where
  pub later : before ≤ now
  pub failed : IsErrOf result Failed → before < now
