-- How a row of places grows by one slot while bytes are read.
use Rattle.std.specs.Prelude.{◌≡◌, ℕ, suc, pos, true, false, List, [], ◌∷◌, ◌++◌, Option, Some, None, is_some}
use Rattle.std.specs.Int.{w32, cast_signed}
use Rattle.bpf_encoding.specs.Fields.{Fields}
use Rattle.bpf_encoding.specs.Spelling.{number_of, fields, fields_of_code, is_whole}
use Rattle.bpf_encoding.specs.Spells.{first_fault, IsFirstFault}
use Rattle.bpf_encoding.specs.Named.{named_from}
use Rattle.bpf_encoding.specs.declared.insn.Register.{Register}
use Rattle.bpf_encoding.specs.declared.insn.Place.{Place}
use Rattle.bpf_encoding.specs.declared.decode.Due.{Due}
use Rattle.bpf_encoding.specs.declared.decode.DecodeFault.{DecodeFault}

-- the slot of a wide instruction that awaits its second
abbrev pub due_fields : Option Due → List Fields
due_fields None = []
due_fields (Some due) = fields 0x18 (number_of due.dst) 0 (pos 0) (cast_signed w32 due.low) ∷ []

abbrev pub half_of : Option Due → Option (Register × ℕ)
half_of None = None
half_of (Some due) = Some (due.dst, due.low)

-- the places, and what is due, have one slot more
pub record TakesSlot (places : List Place) (due : Option Due) (f : Fields) (places' : List Place) (due' : Option Due) : Type 0 where
  pub fields : fields_of_code places' ++ due_fields due' ≡ (fields_of_code places ++ due_fields due) ++ f ∷ []
  pub whole : is_whole false places ≡ true → is_whole false places' ≡ true
  pub named : (fs : List Fields) → places' ++ named_from (half_of due') fs ≡ places ++ named_from (half_of due) (f ∷ fs)
  pub faults : (place : ℕ) (fs : List Fields) → first_fault (is_some due) place (f ∷ fs) ≡ first_fault (is_some due') (suc place) fs

-- the fault is that of this slot, whatever follows
pub record IsFaultHere (due : Option Due) (place : ℕ) (f : Fields) (e : DecodeFault) : Type 0 where
  pub first : (fs : List Fields) → IsFirstFault (first_fault (is_some due) place (f ∷ fs)) e
