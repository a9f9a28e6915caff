-- What was handed in. Code and slots: what they are as a procedure, and why they are none.
use Rattle.std.specs.Prelude.{◌≡◌, ℕ, ◌+◌, ◌==◌, ◌<◌, ◌≤◌, ⊤, MatchBool, List, [], ◌∷◌, ◌++◌, vec_len, vec_capacity, Some, None}
use Rattle.access_slots.specs.Declaration.{Declaration, decl_fault}
use Rattle.access_slots.specs.declared.slot.Key.{Key}
use Rattle.access_slots.specs.declared.slot.Key.TheVariants.{Arg, Fixed}
use Rattle.access_slots.specs.declared.slot.Mode.{Mode}
use Rattle.access_slots.specs.declared.slot.Mode.TheVariants.{Read, Write}
use Rattle.access_slots.specs.declared.slot.Slot.{Slot}
use Rattle.bpf_encoding.specs.Named.{code_named}
use Rattle.bpf_encoding.specs.Spells.{Spells, fault_in, IsFirstFault}
use Rattle.tc_core.specs.declared.recovery.SiteNote.{SiteNote}
use Rattle.tc_core.specs.declared.recovery.SiteNote.TheVariants.{Untold, Restarted, Up}
use Rattle.verifier.specs.Checked.{Checked}
use Rattle.verifier.specs.Verdict.{verdict}
use Rattle.embedding.specs.Codes.{decl_number, decl_place, decode_number, decode_place, violation_number}
use Rattle.embedding.specs.Frames.{text_in, news_in, HasBytes}
use Rattle.embedding.specs.declared.call.TheConstants.{BYTES, SLOT, CLEAR, NOTE, RECOVER}
use Rattle.embedding.specs.declared.codes.TheConstants.{BAD_FRAME, MEMORY}
use Rattle.embedding.specs.declared.frame.Frame.{Frame}
use Rattle.embedding.specs.declared.gathered.Gathered.{Gathered}
use Rattle.embedding.specs.declared.gathered.Wrong.{Wrong}
use Rattle.embedding.specs.declared.gathered.Wrong.TheVariants as wrong

-- ---- handing in

abbrev pub IsMode : ℕ → Mode → Type 0
IsMode kind Read = kind ≡ 0
IsMode kind Write = kind ≡ 1

-- the number of an argument is a byte's
abbrev pub IsKey : Frame → Key → Type 0
IsKey f (Fixed key) = (f.op ≡ 0) × (f.key ≡ key)
IsKey f (Arg argument) = (f.op ≡ 1) × (f.key ≡ argument) × (argument < 256)

-- the frame says this of a data component: that it is up (1), or has restarted (2)
abbrev pub IsNote : Frame → SiteNote → Type 0
IsNote f Untold = ⊥
IsNote f (Up incarnation) = (f.kind ≡ 1) × (f.incarnation ≡ incarnation)
IsNote f (Restarted news) = (f.kind ≡ 2) × (news_in f ≡ news)

-- the frame says this slot
pub record SaysSlot (f : Frame) (slot : Slot) : Type 0 where
  pub mode : IsMode f.kind slot.mode
  pub dc : f.dc ≡ slot.dc
  pub table : f.table ≡ slot.table
  pub key : IsKey f slot.key

pub record HasNothing (g : Gathered) : Type 0 where
  pub bytes : g.bytes.items ≡ []
  pub slots : g.slots.items ≡ []
  pub notes : g.notes.items ≡ []

-- byte by byte, slot by slot and note by note what it was
pub record IsAsGathered (g : Gathered) (g' : Gathered) : Type 0 where
  pub bytes : g'.bytes.items ≡ g.bytes.items
  pub slots : g'.slots.items ≡ g.slots.items
  pub notes : g'.notes.items ≡ g.notes.items

-- the frame's bytes are behind those that there were
pub record TakesBytes (g : Gathered) (f : Frame) (g' : Gathered) : Type 0 where
  pub short : HasBytes f
  pub bytes : g'.bytes.items ≡ g.bytes.items ++ text_in f
  pub slots : g'.slots.items ≡ g.slots.items
  pub notes : g'.notes.items ≡ g.notes.items

-- the frame's slot is behind those that there were
pub record TakesSlot (g : Gathered) (f : Frame) (g' : Gathered) : Type 0 where
  pub slot : Slot
  pub said : SaysSlot f slot
  pub slots : g'.slots.items ≡ g.slots.items ++ slot ∷ []
  pub bytes : g'.bytes.items ≡ g.bytes.items
  pub notes : g'.notes.items ≡ g.notes.items

-- the frame's note is behind those that there were
pub record TakesNote (g : Gathered) (f : Frame) (g' : Gathered) : Type 0 where
  pub note : SiteNote
  pub said : IsNote f note
  pub notes : g'.notes.items ≡ g.notes.items ++ note ∷ []
  pub bytes : g'.bytes.items ≡ g.bytes.items
  pub slots : g'.slots.items ≡ g.slots.items

-- why bytes aren't taken: there are more than a frame has room for, or memory runs out where they need a growth
pub data WhyNoBytes (g : Gathered) (f : Frame) (code : ℕ) : Type 0 where
  TooLong : code ≡ BAD_FRAME → 256 < f.count → WhyNoBytes g f code
  NoRoom : code ≡ MEMORY → HasBytes f → vec_capacity g.bytes < vec_len g.bytes + f.count → WhyNoBytes g f code

-- why a slot isn't: the frame says none, or memory runs out where it needs a growth
pub data WhyNoSlot (g : Gathered) (f : Frame) (code : ℕ) : Type 0 where
  Unsaid : code ≡ BAD_FRAME → ((slot : Slot) → ¬ (SaysSlot f slot)) → WhyNoSlot g f code
  NoRoom : code ≡ MEMORY → (slot : Slot) → SaysSlot f slot → vec_capacity g.slots ≤ vec_len g.slots → WhyNoSlot g f code

-- and why a note isn't
pub data WhyNoNote (g : Gathered) (f : Frame) (code : ℕ) : Type 0 where
  Unsaid : code ≡ BAD_FRAME → ((note : SiteNote) → ¬ (IsNote f note)) → WhyNoNote g f code
  NoRoom : code ≡ MEMORY → (note : SiteNote) → IsNote f note → vec_capacity g.notes ≤ vec_len g.notes → WhyNoNote g f code

-- what a call that answered 0 makes of what was handed in, by its number; one that isn't named here leaves it as it was
abbrev pub GatheredBy : ℕ → Gathered → Frame → Gathered → Type 0
GatheredBy what g f g' =
    MatchBool (what == BYTES) (TakesBytes g f g')
    (MatchBool (what == SLOT) (TakesSlot g f g')
    (MatchBool (what == CLEAR) (HasNothing g')
    (MatchBool (what == NOTE) (TakesNote g f g')
    (MatchBool (what == RECOVER) (HasNothing g')
    (IsAsGathered g g')))))

-- ---- what it is

abbrev pub decl_of : List Slot → ℕ → Declaration
decl_of slots args = record { args = args; slots = slots }

-- the code that the bytes name, with these slots, for so many arguments
abbrev pub checked_of : List ℕ → List Slot → ℕ → Checked
checked_of bytes slots args = record { code = code_named bytes; decl = decl_of slots args }

-- nothing is wrong with the bytes, the slots and what the code does
pub record IsProcedure (bytes : List ℕ) (slots : List Slot) (args : ℕ) : Type 0 where
  pub declared : decl_fault args slots ≡ None
  pub spelled : Spells bytes (code_named bytes)
  pub accepted : verdict (decl_of slots args) (code_named bytes) ≡ None

-- this is the first thing that is wrong; want of memory says nothing
abbrev pub IsWrong : List ℕ → List Slot → ℕ → Wrong → Type 0
IsWrong bytes slots args wrong.Arguments = 255 < args
IsWrong bytes slots args (wrong.Slots fault) = (args ≤ 255) × (decl_fault args slots ≡ Some fault)
IsWrong bytes slots args (wrong.Bytes fault) = (decl_fault args slots ≡ None) × IsFirstFault (fault_in bytes) fault
IsWrong bytes slots args (wrong.Unsafe slot violation) =
    (decl_fault args slots ≡ None) × Spells bytes (code_named bytes)
    × (verdict (decl_of slots args) (code_named bytes) ≡ Some (slot, violation))
IsWrong bytes slots args wrong.Memory = ⊤

abbrev pub wrong_number : Wrong → ℕ
wrong_number wrong.Arguments = 0x5702
wrong_number (wrong.Slots fault) = decl_number fault
wrong_number (wrong.Bytes fault) = decode_number fault
wrong_number (wrong.Unsafe slot violation) = violation_number violation
wrong_number wrong.Memory = 0x5705

-- the slot of the code or of the declaration
abbrev pub wrong_place : Wrong → ℕ
wrong_place wrong.Arguments = 0
wrong_place (wrong.Slots fault) = decl_place fault
wrong_place (wrong.Bytes fault) = decode_place fault
wrong_place (wrong.Unsafe slot violation) = slot
wrong_place wrong.Memory = 0

-- what was handed in is no procedure
pub record IsNoProcedure (g : Gathered) (f : Frame) (code : ℕ) (f' : Frame) : Type 0 where
  pub why : Wrong
  pub is : IsWrong g.bytes.items g.slots.items f.word why
  pub number : code ≡ wrong_number why
  pub place : f'.place ≡ wrong_place why
