-- Which code bytes spell, and the first fault of bytes that spell none.
use Rattle.std.specs.Prelude.{◌≡◌, ℕ, suc, ◌*◌, ◌%◌, ◌<◌, ◌≤◌, Bool, true, false, ◌==◌, nat_lt, ◌-◌, if◌then◌else◌}
use Rattle.std.specs.Prelude.{List, [], ◌∷◌, length, Option, Some, None}
use Rattle.bpf_encoding.specs.Fields.{Fields, slots_of}
use Rattle.bpf_encoding.specs.Spelling.{fields_of_code, is_whole, places_of}
use Rattle.bpf_encoding.specs.Faults.{fault_of, is_second}
use Rattle.bpf_encoding.specs.declared.code.TheConstants.{MOST_SLOTS}
use Rattle.bpf_encoding.specs.declared.insn.Insn.{Insn}
use Rattle.bpf_encoding.specs.declared.insn.Place.{Place}
use Rattle.bpf_encoding.specs.declared.slot.SlotFault.{SlotFault}
use Rattle.bpf_encoding.specs.declared.slot.SlotFault.TheVariants as slot
use Rattle.bpf_encoding.specs.declared.decode.DecodeFault.{DecodeFault}
use Rattle.bpf_encoding.specs.declared.decode.DecodeFault.TheVariants.{NoCode, Length, TooLong, WideCut, UnusedField}
use Rattle.bpf_encoding.specs.declared.decode.DecodeFault.TheVariants.{Undefined, OutsideProfile, Memory}

-- 1 to MOST_SLOTS places, each wide instruction followed by its second slot, and no other second slot
pub record IsCode (places : List Place) : Type 0 where
  pub some : 0 < length places
  pub short : length places ≤ MOST_SLOTS
  pub whole : is_whole false places ≡ true

-- the bytes' slots are those of the code
pub record Spells (bytes : List ℕ) (places : List Place) : Type 0 where
  pub long : length bytes ≡ 8 * length places
  pub code : IsCode places
  pub fields : slots_of bytes ≡ fields_of_code places

abbrev pub at_slot : ℕ → SlotFault → DecodeFault
at_slot place slot.UnusedField = UnusedField place
at_slot place slot.Undefined = Undefined place
at_slot place (slot.OutsideProfile which) = OutsideProfile place which

abbrev pub or_later : ℕ → Option SlotFault → Option DecodeFault → Option DecodeFault
or_later place None later = later
or_later place (Some e) later = Some (at_slot place e)

abbrev pub is_wide_opcode : Fields → Bool
is_wide_opcode f = f.opcode == 0x18

-- the first fault from this place on; the flag says that a second slot is due
abbrev pub first_fault : Bool → ℕ → List Fields → Option DecodeFault
first_fault false place [] = None
first_fault true place [] = Some (WideCut (place - 1))
first_fault false place (f ∷ fs) = or_later place (fault_of f) (first_fault (is_wide_opcode f) (suc place) fs)
first_fault true place (f ∷ fs) = if is_second f then first_fault false (suc place) fs else Some (UnusedField place)

-- the faults of the whole come first
abbrev pub fault_in : List ℕ → Option DecodeFault
fault_in bytes =
    if length bytes == 0 then Some NoCode else
    if length bytes % 8 == 0 then
    (if nat_lt (8 * MOST_SLOTS) (length bytes) then Some TooLong else first_fault false 0 (slots_of bytes)) else Some Length

-- the first fault, want of memory aside
abbrev pub IsFirstFault : Option DecodeFault → DecodeFault → Type 0
IsFirstFault first Memory = Unit {0}
IsFirstFault first NoCode = first ≡ Some NoCode
IsFirstFault first Length = first ≡ Some Length
IsFirstFault first TooLong = first ≡ Some TooLong
IsFirstFault first (WideCut slot) = first ≡ Some (WideCut slot)
IsFirstFault first (UnusedField slot) = first ≡ Some (UnusedField slot)
IsFirstFault first (Undefined slot) = first ≡ Some (Undefined slot)
IsFirstFault first (OutsideProfile slot which) = first ≡ Some (OutsideProfile slot which)

-- the instructions fill no slot, or more than MOST_SLOTS
abbrev pub IsLengthFault : List Insn → DecodeFault → Type 0
IsLengthFault insns Memory = Unit {0}
IsLengthFault insns NoCode = insns ≡ []
IsLengthFault insns TooLong = MOST_SLOTS < length (places_of insns)
IsLengthFault insns Length = ⊥
IsLengthFault insns (WideCut slot) = ⊥
IsLengthFault insns (UnusedField slot) = ⊥
IsLengthFault insns (Undefined slot) = ⊥
IsLengthFault insns (OutsideProfile slot which) = ⊥
