-- A row of places that grows, and its slots.
use Rattle.std.proofs.Common.{◌≡◌, ℕ, zero, suc, ◌+◌, ◌-◌, ◌/◌, ◌%◌, ◌<◌, ◌≤◌, ◌^◌, Bool, true, false, if◌then◌else◌}
use Rattle.std.proofs.Common.{List, [], ◌∷◌, ◌++◌, length, take, drop, Option, Some, None, refl, sym, ap, ap₂, subst, ◌∙◌}
use Rattle.std.proofs.Common.{arith, append_assoc, add-one}
use Rattle.std.specs.Prelude.{ℤ, pos, is_some}
use Rattle.std.specs.Int.{w32, cast_signed, cast_unsigned}
use Rattle.std.specs.Int.RustNames.{FitsSigned}
use Rattle.std.proofs.lemmas.List.{append-nil}
use Rattle.std.proofs.lemmas.Int.{to_z-of_z, of_z-to_z}
use Rattle.bpf_encoding.specs.Named.{register_named, insn_named, wide_named, named_from}
use Rattle.bpf_encoding.proofs.Named.{register_named-number_of, insn_named-fields_of}
use Rattle.bpf_encoding.specs.Fields.{Fields, fields_of_bytes, slots_from, slots_of}
use Rattle.bpf_encoding.specs.Spelling.{number_of, fields, fields_of, second_fields, high_half, is_wide, fields_behind, fields_of_code, is_whole}
use Rattle.bpf_encoding.specs.Faults.{fault_of}
use Rattle.bpf_encoding.specs.Spells.{Spells, or_later, is_wide_opcode, first_fault, IsFirstFault}
use Rattle.bpf_encoding.specs.Joining.Taking.{TakesSlot, IsFaultHere}
use Rattle.bpf_encoding.proofs.NoFault.{fault_of-fields_of, is_wide_opcode-fields_of}
use Rattle.bpf_encoding.specs.declared.insn.Register.{Register}
use Rattle.bpf_encoding.specs.declared.insn.Insn.{Insn}
use Rattle.bpf_encoding.specs.declared.insn.Insn.TheVariants.{LoadWide}
use Rattle.bpf_encoding.specs.declared.insn.Place.{Place}
use Rattle.bpf_encoding.specs.declared.insn.Place.TheVariants as place
use Rattle.bpf_encoding.specs.declared.slot.SlotFault.{SlotFault}
use Rattle.bpf_encoding.specs.declared.decode.Due.{Due}
use Rattle.bpf_encoding.specs.declared.decode.DecodeFault.{DecodeFault}
use Rattle.bpf_encoding.specs.declared.decode.DecodeFault.TheVariants.{Memory}

pub fields_behind-append : (high : ℕ) (xs : List Place) (i : Insn) (ys : List Place)
    → fields_behind high (xs ++ place.Insn i ∷ ys) ≡ fields_behind high xs ++ fields_of i ∷ fields_behind (high_half i) ys
fields_behind-append high [] i ys = refl
fields_behind-append high (place.Insn j ∷ xs) i ys = ap (λ (fs : List Fields). fields_of j ∷ fs) (fields_behind-append (high_half j) xs i ys)
fields_behind-append high (place.Second ∷ xs) i ys = ap (λ (fs : List Fields). second_fields high ∷ fs) (fields_behind-append 0 xs i ys)

pub length-fields_behind : (high : ℕ) (xs : List Place) → length (fields_behind high xs) ≡ length xs
length-fields_behind high [] = refl
length-fields_behind high (place.Insn j ∷ xs) = ap suc (length-fields_behind (high_half j) xs)
length-fields_behind high (place.Second ∷ xs) = ap suc (length-fields_behind 0 xs)

pub is_whole-append : (due : Bool) (xs ys : List Place) → is_whole due xs ≡ true → is_whole due (xs ++ ys) ≡ is_whole false ys
is_whole-append false [] ys h = refl
is_whole-append false (place.Insn i ∷ xs) ys h = is_whole-append (is_wide i) xs ys h
is_whole-append true (place.Second ∷ xs) ys h = is_whole-append false xs ys h
is_whole-append due xs ys h = absurd cc

no_fault : (i : Insn) (f : Fields) → fields_of i ≡ f → (place : ℕ) (later : Option DecodeFault) → or_later place (fault_of f) later ≡ later
no_fault i f is place later = ap (λ (o : Option SlotFault). or_later place o later) (ap fault_of (sym is) ∙ fault_of-fields_of i)

opcode_is : (i : Insn) (f : Fields) → fields_of i ≡ f → is_wide_opcode f ≡ is_wide i
opcode_is i f is = ap is_wide_opcode (sym is) ∙ is_wide_opcode-fields_of i

named_narrow : (f : Fields) (fs : List Fields) → is_wide_opcode f ≡ false → named_from None (f ∷ fs) ≡ place.Insn (insn_named f) ∷ named_from None fs
named_narrow f fs narrow =
    ap (λ (b : Bool). if b then named_from (Some (register_named f.dst, cast_unsigned w32 f.imm)) fs else place.Insn (insn_named f) ∷ named_from None fs) narrow

-- an instruction of one slot
pub takes_insn : (places : List Place) (i : Insn) (f : Fields) → is_wide i ≡ false → fields_of i ≡ f
    → TakesSlot places None f (places ++ place.Insn i ∷ []) None
takes_insn places i f narrow is = record {
  fields =
      append-nil (fields_of_code (places ++ place.Insn i ∷ [])) ∙ fields_behind-append 0 places i [] ∙ ap (λ (g : Fields). fields_of_code places ++ g ∷ []) is
      ∙ ap (λ (fs : List Fields). fs ++ f ∷ []) (sym (append-nil (fields_of_code places)));
  whole = λ h. is_whole-append false places (place.Insn i ∷ []) h ∙ ap (λ (b : Bool). is_whole b []) narrow;
  named = λ fs.
      let named_is = ap insn_named (sym is) ∙ insn_named-fields_of i narrow in
      append_assoc places (place.Insn i ∷ []) (named_from None fs) ∙ ap (λ (j : Insn). places ++ place.Insn j ∷ named_from None fs) (sym named_is)
      ∙ ap (λ (ps : List Place). places ++ ps) (sym (named_narrow f fs (opcode_is i f is ∙ narrow)));
  faults = λ place fs. no_fault i f is place _ ∙ ap (λ (b : Bool). first_fault b (suc place) fs) (opcode_is i f is ∙ narrow);
}

abbrev wide_fields : Register → ℕ → Fields
wide_fields dst low = fields 0x18 (number_of dst) 0 (pos 0) (cast_signed w32 low)

-- the first slot of a wide instruction
pub takes_wide : (places : List Place) (dst : Register) (value : ℕ) (f : Fields) (due : Due)
    → fields_of (LoadWide dst value) ≡ f → due.dst ≡ dst → due.low ≡ value % 2 ^ 32
    → TakesSlot places None f places (Some due)
takes_wide places dst value f due is dst_is low_is = record {
  fields =
      ap (λ (g : Fields). fields_of_code places ++ g ∷ []) (ap₂ wide_fields dst_is low_is ∙ is)
      ∙ ap (λ (fs : List Fields). fs ++ f ∷ []) (sym (append-nil (fields_of_code places)));
  whole = λ h. h;
  named = λ fs.
      ap (λ (r : Register). places ++ named_from (Some (r, due.low)) fs) (dst_is ∙ sym (register_named-number_of dst))
      ∙ ap (λ (n : ℕ). places ++ named_from (Some (register_named (number_of dst), n)) fs) (low_is ∙ sym (of_z-to_z w32 (value % 2 ^ 32) (omega arith)))
      ∙ ap (λ (g : Fields). places ++ named_from None (g ∷ fs)) is;
  faults = λ place fs. no_fault (LoadWide dst value) f is place _ ∙ ap (λ (b : Bool). first_fault b (suc place) fs) (ap is_wide_opcode (sym is));
}

-- the second
pub takes_second : (places : List Place) (due : Due) (value : ℕ) (imm : ℤ) → value % 2 ^ 32 ≡ due.low
    → value / 2 ^ 32 % 2 ^ 32 ≡ cast_unsigned w32 imm → value ≡ wide_named due.low (cast_unsigned w32 imm)
    → FitsSigned w32 imm
    → TakesSlot places (Some due) (fields 0 0 0 (pos 0) imm) ((places ++ place.Insn (LoadWide due.dst value) ∷ []) ++ place.Second ∷ []) None
takes_second places due value imm low_is high_is value_is fits =
    let i : Insn = LoadWide due.dst value in
    let before = fields_of_code places in
    let both = append_assoc places (place.Insn i ∷ []) (place.Second ∷ []) in
    let first : fields_of i ≡ wide_fields due.dst due.low = ap (wide_fields due.dst) low_is in
    let second : second_fields (high_half i) ≡ fields 0 0 0 (pos 0) imm = ap second_fields high_is ∙ ap (fields 0 0 0 (pos 0)) (to_z-of_z w32 imm fits) in
    record {
      fields =
          append-nil (fields_of_code ((places ++ place.Insn i ∷ []) ++ place.Second ∷ [])) ∙ ap fields_of_code both ∙ fields_behind-append 0 places i (place.Second ∷ [])
          ∙ ap₂ (λ (f g : Fields). before ++ f ∷ g ∷ []) first second ∙ sym (append_assoc before (wide_fields due.dst due.low ∷ []) (fields 0 0 0 (pos 0) imm ∷ []));
      whole = λ h. ap (is_whole false) both ∙ is_whole-append false places (place.Insn i ∷ place.Second ∷ []) h;
      named = λ fs.
          ap (λ (ps : List Place). ps ++ named_from None fs) both ∙ append_assoc places (place.Insn i ∷ place.Second ∷ []) (named_from None fs)
          ∙ ap (λ (n : ℕ). places ++ place.Insn (LoadWide due.dst n) ∷ place.Second ∷ named_from None fs) value_is;
      faults = λ place fs. refl;
    }

pub blank_fields : (opcode dst src : ℕ) (offset imm : ℤ) → opcode ≡ 0 → dst ≡ 0 → src ≡ 0 → offset ≡ pos 0
    → fields 0 0 0 (pos 0) imm ≡ fields opcode dst src offset imm
blank_fields opcode dst src offset imm o d s z = cc

-- ---- the loop over the slots

slots_on : (count at : ℕ) (rest : List ℕ) → at < count → slots_from (count - at) rest ≡ fields_of_bytes (take 8 rest) ∷ slots_from (count - (at + 1)) (drop 8 rest)
slots_on count at rest lt = (let k : count - at ≡ suc (count - (at + 1)) = omega arith in ap (λ (n : ℕ). slots_from n rest) k)

pub fields_go_on : (count at : ℕ) (before : List Fields) (rest : List ℕ) (after : List Fields) (total : List Fields)
    → at < count → after ≡ before ++ fields_of_bytes (take 8 rest) ∷ []
    → before ++ slots_from (count - at) rest ≡ total → after ++ slots_from (count - (at + 1)) (drop 8 rest) ≡ total
fields_go_on count at before rest after total lt is so_far =
    let tail = slots_from (count - (at + 1)) (drop 8 rest) in
    let joined = append_assoc before (fields_of_bytes (take 8 rest) ∷ []) tail in
    ap (λ (fs : List Fields). fs ++ tail) is ∙ joined ∙ ap (λ (fs : List Fields). before ++ fs) (sym (slots_on count at rest lt)) ∙ so_far

pub faults_go_on : (count at : ℕ) (due due' : Bool) (rest : List ℕ) (total : Option DecodeFault) → at < count
    → ((place : ℕ) (fs : List Fields) → first_fault due place (fields_of_bytes (take 8 rest) ∷ fs) ≡ first_fault due' (suc place) fs)
    → first_fault due at (slots_from (count - at) rest) ≡ total → first_fault due' (at + 1) (slots_from (count - (at + 1)) (drop 8 rest)) ≡ total
faults_go_on count at due due' rest total lt is so_far =
    let tail = slots_from (count - (at + 1)) (drop 8 rest) in
    ap (λ (n : ℕ). first_fault due' n tail) (add-one at) ∙ sym (is at tail) ∙ ap (first_fault due at) (sym (slots_on count at rest lt)) ∙ so_far

pub named_goes_on : (count at : ℕ) (half half' : Option (Register × ℕ)) (before after : List Place) (rest : List ℕ) (total : List Place) → at < count
    → ((fs : List Fields) → after ++ named_from half' fs ≡ before ++ named_from half (fields_of_bytes (take 8 rest) ∷ fs))
    → before ++ named_from half (slots_from (count - at) rest) ≡ total → after ++ named_from half' (slots_from (count - (at + 1)) (drop 8 rest)) ≡ total
named_goes_on count at half half' before after rest total lt is so_far =
    is (slots_from (count - (at + 1)) (drop 8 rest)) ∙ ap (λ (fs : List Fields). before ++ named_from half fs) (sym (slots_on count at rest lt)) ∙ so_far

pub fault_is_first : (count at : ℕ) (due : Option Due) (rest : List ℕ) (total : Option DecodeFault) (e : DecodeFault)
    → at < count → IsFaultHere due at (fields_of_bytes (take 8 rest)) e
    → first_fault (is_some due) at (slots_from (count - at) rest) ≡ total → IsFirstFault total e
fault_is_first count at due rest total e lt here so_far =
    let tail = slots_from (count - (at + 1)) (drop 8 rest) in
    let is : first_fault (is_some due) at (fields_of_bytes (take 8 rest) ∷ tail) ≡ total = ap (first_fault (is_some due) at) (sym (slots_on count at rest lt)) ∙ so_far in
    let P : Option DecodeFault → Type 0 = λ o. IsFirstFault o e in
    subst P is (here.first tail)

pub length-slots_from : (n : ℕ) (bytes : List ℕ) → length (slots_from n bytes) ≡ n
length-slots_from zero bytes = refl
length-slots_from (suc n) bytes = ap suc (length-slots_from n (drop 8 bytes))

-- ---- what is spelled has no fault

no_fault_from : (high : ℕ) (due : Bool) (places : List Place) (at : ℕ) → is_whole due places ≡ true
    → first_fault due at (fields_behind high places) ≡ None
no_fault_from high false [] at h = refl
no_fault_from high false (place.Insn i ∷ places) at h =
    no_fault i (fields_of i) refl at _ ∙ ap (λ (b : Bool). first_fault b (suc at) (fields_behind (high_half i) places)) (is_wide_opcode-fields_of i)
    ∙ no_fault_from (high_half i) (is_wide i) places (suc at) h
no_fault_from high true (place.Second ∷ places) at h = no_fault_from 0 false places (suc at) h
no_fault_from high due places at h = absurd cc

none_first : (first : Option DecodeFault) (e : DecodeFault) → first ≡ None → IsFirstFault first e → e ≡ Memory
none_first first Memory none h = refl
none_first first e none h = let both = sym none ∙ h in absurd cc

pub only_memory : (bytes : List ℕ) (places : List Place) (e : DecodeFault) → Spells bytes places
    → IsFirstFault (first_fault false 0 (slots_of bytes)) e → e ≡ Memory
only_memory bytes places e spells h = none_first _ e (ap (first_fault false 0) spells.fields ∙ no_fault_from 0 false places 0 spells.code.whole) h

pub is_code : (bytes : List ℕ) (places : List Place) → 0 < length bytes → length bytes % 8 ≡ 0 → length bytes ≤ 32768
    → fields_of_code places ≡ slots_of bytes → is_whole false places ≡ true → Spells bytes places
is_code bytes places some whole short is closed =
    let n : length places ≡ length bytes / 8 = sym (length-fields_behind 0 places) ∙ ap length is ∙ length-slots_from (length bytes / 8) bytes in
    record { long = omega (arith, n); code = record { some = omega (arith, n); short = omega (arith, n); whole = closed }; fields = sym is }
