-- The calls of a file that were made, and what a crash leaves behind them. Newest first.
use Rattle.std.specs.Prelude.{◌≡◌, ◌⊎◌, ℕ, ◌+◌, ◌<◌, ◌==◌, if◌then◌else◌, List, [], ◌∷◌, ◌++◌, length, take, slice_index}
use mathlib.Core.Logic.{inl, inr}
use native.Mathlib.Nat.{lt_irrefl}
use Rattle.frame_file.specs.Device.{Torn, Cut}

-- opened with these bytes, all on the disk; these bytes appended; cut to a length; synced; these bytes appended and synced; a sync that
-- failed
pub data Call : Type 0 where
  Opened : List ℕ → Call
  Appended : List ℕ → Call
  CutTo : ℕ → Call
  Synced : Call
  Kept : List ℕ → Call
  Unsynced : Call

pub record Event : Type 0 where
  pub call : Call
  -- 1 where the system said that it failed
  pub fault : ℕ

-- of a kind, a length and bytes
abbrev pub call_of : ℕ → ℕ → List ℕ → Call
call_of kind len bytes =
    if kind == 0 then Opened bytes else
    if kind == 1 then Appended bytes else
    if kind == 2 then CutTo len else
    if kind == 3 then Synced else
    if kind == 4 then Kept bytes else Unsynced

-- numbers: kind, fault and length
abbrev pub event_of : List ℕ → List ℕ → Event
event_of numbers bytes = record { call = call_of (slice_index numbers 0) (slice_index numbers 2) bytes; fault = slice_index numbers 1 }

-- the bytes that a call leaves, by those before it: of one that failed, the same
abbrev pub written_with : Call → ℕ → List ℕ → List ℕ
written_with (Opened file) fault before = file
written_with (Appended bytes) fault before = if fault == 0 then before ++ bytes else before
written_with (CutTo n) fault before = if fault == 0 then take n before else before
written_with Synced fault before = before
written_with (Kept bytes) fault before = if fault == 0 then before ++ bytes else before
written_with Unsynced fault before = before

-- what was read and written
abbrev pub written_by : List Event → List ℕ
written_by [] = []
written_by (x ∷ events) = written_with x.call x.fault (written_by events)

-- what a crash leaves behind a call, by the bytes before it and what it left then
abbrev pub left_by : Call → List ℕ → (List ℕ → Type 0) → List ℕ → Type 0
left_by (Opened file) before left c = c ≡ file
left_by (Appended bytes) before left c = (d : List ℕ) × left d × Torn bytes d c
left_by (CutTo n) before left c = (d : List ℕ) × left d × Cut n d c
left_by Synced before left c = (c ≡ before) × left c
left_by (Kept bytes) before left c = c ≡ before ++ bytes
left_by Unsynced before left c = left c

abbrev pub MayLeave : List Event → (List ℕ → Type 0)
MayLeave [] = λ c. ⊥
MayLeave (x ∷ events) = left_by x.call (written_by events) (MayLeave events)

-- behind so many events, or later
abbrev pub LeftSince : List Event → ℕ → List ℕ → Type 0
LeftSince [] t c = ⊥
LeftSince (x ∷ events) t c = MayLeave (x ∷ events) c ⊎ ((t < length (x ∷ events)) × LeftSince events t c)

abbrev pub fault_count : List Event → ℕ
fault_count [] = 0
fault_count (x ∷ events) = x.fault + fault_count events

-- what was appended and synced, one piece behind another: of a file that holds what is cut off from another
abbrev pub kept_by : Call → List ℕ
kept_by (Opened file) = []
kept_by (Appended bytes) = []
kept_by (CutTo n) = []
kept_by Synced = []
kept_by (Kept bytes) = bytes
kept_by Unsynced = []

abbrev pub pieces_in : List Event → List ℕ
pieces_in [] = []
pieces_in (x ∷ events) = pieces_in events ++ kept_by x.call

pub counted : (events : List Event) (t : ℕ) (c : List ℕ) → MayLeave events c → LeftSince events t c
counted [] t c now = now
counted (x ∷ events) t c now = inl now

pub alone : (events : List Event) (c : List ℕ) → LeftSince events (length events) c → MayLeave events c
alone [] c left = left
alone (x ∷ events) c (inl now) = now
alone (x ∷ events) c (inr before) = absurd (lt_irrefl (length (x ∷ events)) before.0)
