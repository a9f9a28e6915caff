-- What a frame says: records, operations, wires, replies and news. The relations hold in both directions, of what a caller wrote and of
-- what it reads.
use Rattle.std.specs.Prelude.{◌≡◌, ◌<◌, ◌≤◌, ℕ, Bool, true, false, List, take, Some, None}
use Rattle.std.specs.Str.{IsUtf8}
use Rattle.access_slots.specs.declared.op.Op.{Op}
use Rattle.access_slots.specs.declared.op.Op.TheVariants.{Read, Insert, Update, Delete}
use Rattle.access_slots.specs.declared.op.Said.{Said}
use Rattle.access_slots.specs.declared.op.Said.TheVariants.{Value, Absent, Done, Duplicate, Missing, NoRoom, Old}
use Rattle.access_slots.specs.declared.op.Wire.{Wire}
use Rattle.access_slots.specs.declared.op.Reply.{Reply}
use Rattle.access_slots.specs.declared.op.News.{News}
use Rattle.access_slots.specs.declared.slot.Record as records
use Rattle.history.specs.Calls.{Call}
use Rattle.embedding.specs.declared.codes.TheConstants.{BAD_FRAME, NOT_TEXT}
use Rattle.embedding.specs.declared.frame.Frame.{Frame}

abbrev pub bit : Bool → ℕ
bit false = 0
bit true = 1

-- the frame names this record
abbrev pub IsOf : Frame → records.Record → Type 0
IsOf f r = (f.dc ≡ r.dc) × (f.table ≡ r.table) × (f.key ≡ r.key)

-- the frame names this operation
abbrev pub Names : Frame → Op → Type 0
Names f (Read r) = (f.op ≡ 1) × IsOf f r
Names f (Insert r v) = (f.op ≡ 2) × IsOf f r × (f.value ≡ v)
Names f (Update r v) = (f.op ≡ 3) × IsOf f r × (f.value ≡ v)
Names f (Delete r) = (f.op ≡ 4) × IsOf f r

-- the frame says this to an operation
abbrev pub Says : Frame → Said → Type 0
Says f (Value v) = (f.kind ≡ 1) × (f.value ≡ v)
Says f Absent = f.kind ≡ 2
Says f (Done None) = f.kind ≡ 3
Says f (Done (Some v)) = (f.kind ≡ 4) × (f.value ≡ v)
Says f Duplicate = f.kind ≡ 5
Says f Missing = f.kind ≡ 6
Says f NoRoom = f.kind ≡ 7
Says f Old = f.kind ≡ 8

-- it says none of the eight answers
abbrev pub SaysNothing : Frame → Type 0
SaysNothing f = (said : Said) → ¬ (Says f said)

-- the frame carries this wire
abbrev pub Carries : Frame → Wire → Type 0
Carries f w = (f.number ≡ w.number) × (f.low_water ≡ w.low_water) × (f.incarnation ≡ w.incarnation) × (f.redo ≡ bit w.redo) × Names f w.op

-- it names none of the four operations, or has no bit where it says whether it redoes
abbrev pub CarriesNothing : Frame → Type 0
CarriesNothing f = (w : Wire) → ¬ (Carries f w)

-- the frame brings this reply
abbrev pub Brings : Frame → Reply → Type 0
Brings f x = (f.number ≡ x.number) × (f.incarnation ≡ x.incarnation) × Says f x.said

-- the news of a restart in the frame
abbrev pub news_in : Frame → News
news_in f = record { incarnation = f.incarnation; mark = f.low_water }

-- there are no more arguments than a frame has room for
abbrev pub HasArgs : Frame → Type 0
HasArgs f = f.count ≤ 8

abbrev pub args_in : Frame → List ℕ
args_in f = take f.count f.args

-- there are no more bytes than a frame has room for
abbrev pub HasBytes : Frame → Type 0
HasBytes f = f.count ≤ 256

-- the bytes in the frame, as a name has them
abbrev pub text_in : Frame → List ℕ
text_in f = take f.count f.bytes

-- these bytes are text
pub record HasName (f : Frame) : Type 0 where
  pub short : HasBytes f
  pub text : IsUtf8 (text_in f)

-- why they are no name: there are more than a frame has room for, or they aren't UTF-8
pub data IsNoName (f : Frame) (code : ℕ) : Type 0 where
  TooLong : code ≡ BAD_FRAME → 256 < f.count → IsNoName f code
  NotText : code ≡ NOT_TEXT → HasBytes f → ¬ (IsUtf8 (text_in f)) → IsNoName f code

-- the call in the frame: a procedure's number and its arguments
abbrev pub call_in : Frame → Call
call_in f = record { proc = f.word; args = args_in f }
