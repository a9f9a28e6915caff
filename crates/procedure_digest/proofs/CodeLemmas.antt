-- Code's bytes, and the code that bytes spell.
use Rattle.std.proofs.Common.{arith, ◌≡◌, ℕ, zero, suc, ◌+◌, ◌*◌, ◌/◌, ◌%◌, ◌<◌, ◌^◌, Bool, true, false, Some, None}
use Rattle.std.proofs.Common.{List, [], ◌∷◌, ◌++◌, length, get_or, take, drop}
use Rattle.std.proofs.Common.{inl, inr, if◌then◌else◌, refl, sym, ◌∙◌, ap, ap₂, subst, length-drop, take-append-drop}
use Rattle.std.specs.List.{flat_map}
use Rattle.std.specs.Int.{w16, w32, cast_signed, cast_unsigned, from_le_bytes, to_le_bytes}
use Rattle.std.proofs.lemmas.List.{take_all, nil_from_length, length-take, length-take-le, get_or-take, get_or-drop, get_or_past, drop-drop}
use Rattle.std.proofs.lemmas.Bool.{cases_lt}
use Rattle.std.proofs.lemmas.Int.{of_z-to_z}
use Rattle.std.proofs.lemmas.Nat.{le_bytes_2, le_bytes_4}
use Rattle.std.proofs.Math.Seq.{drop-cons}
use Rattle.bpf_encoding.specs.Fields.{Fields, fields_of_bytes, slots_from}
use Rattle.bpf_encoding.specs.Spelling.{fields_behind, high_half, fields_of, is_wide, is_whole, number_of}
use Rattle.bpf_encoding.specs.Spells.{Spells}
use Rattle.bpf_encoding.specs.Named.{named_from, code_named, insn_named, register_named, wide_named}
use Rattle.bpf_encoding.proofs.NoFault.{is_wide_opcode-fields_of}
use Rattle.bpf_encoding.proofs.Named.{insn_named-fields_of, register_named-number_of}
use Rattle.bpf_encoding.specs.declared.insn.Insn.{Insn}
use Rattle.bpf_encoding.specs.declared.insn.Register.{Register}
use Rattle.bpf_encoding.specs.declared.insn.Insn.TheVariants.{LoadWide}
use Rattle.bpf_encoding.specs.declared.insn.Place.{Place}
use Rattle.bpf_encoding.specs.declared.insn.Place.TheVariants as place
use Rattle.procedure_digest.specs.Bytes.{field_bytes, code_bytes, AreWide}

-- ---- from bytes

abbrev pub AreBytes : List ℕ → Type 0
AreBytes bs = (i : ℕ) → get_or bs i 0 < 256

abbrev IsByte : ℕ → Type 0
IsByte b = b < 256

taken_are : (n : ℕ) (bs : List ℕ) → AreBytes bs → AreBytes (take n bs)
taken_are n bs are i =
    elim (cases_lt i n) [
      | inl below ↦ subst IsByte (sym (get_or-take n bs i 0 below)) (are i)
      | inr above ↦ subst IsByte (sym (get_or_past (take n bs) i 0 (omega (arith, above, length-take n bs)))) (omega arith)
    ]

dropped_are : (n : ℕ) (bs : List ℕ) → AreBytes bs → AreBytes (drop n bs)
dropped_are n bs are i = subst IsByte (sym (get_or-drop n bs i 0)) (are (n + i))

half_back : (bs : List ℕ) → length bs ≡ 2 → AreBytes bs → to_le_bytes w16 (cast_unsigned w16 (cast_signed w16 (from_le_bytes w16 bs))) ≡ bs
half_back bs long are =
    ap (to_le_bytes w16) (of_z-to_z w16 (from_le_bytes w16 bs) (omega (arith, are 0, are 1))) ∙ le_bytes_2 bs (from_le_bytes w16 bs) long are refl

word_back : (bs : List ℕ) → length bs ≡ 4 → AreBytes bs → to_le_bytes w32 (cast_unsigned w32 (cast_signed w32 (from_le_bytes w32 bs))) ≡ bs
word_back bs long are =
    ap (to_le_bytes w32) (of_z-to_z w32 (from_le_bytes w32 bs) (omega (arith, are 0, are 1, are 2, are 3))) ∙ le_bytes_4 bs (from_le_bytes w32 bs) long are refl

two_parts : (a : ℕ) → a % 16 + 16 * (a / 16) ≡ a
two_parts a = omega arith

parts_are : (bs : List ℕ) → length bs ≡ 8 → ((get_or bs 0 0 ∷ get_or bs 1 0 ∷ []) ++ take 2 (drop 2 bs)) ++ take 4 (drop 4 bs) ≡ bs
parts_are bs long =
    let rest : take 4 (drop 4 bs) ≡ drop 4 bs = take_all 4 (drop 4 bs) (omega (arith, length-drop 4 bs)) in
    let later : take 2 (drop 2 bs) ++ drop 4 bs ≡ drop 2 bs
    = ap (λ (l : List ℕ). take 2 (drop 2 bs) ++ l) (sym (drop-drop 2 2 bs)) ∙ take-append-drop 2 (drop 2 bs) in
    let second : get_or bs 1 0 ∷ drop 2 bs ≡ drop 1 bs = sym (drop-cons bs 1 0 (omega (arith, long))) in
    let first : get_or bs 0 0 ∷ drop 1 bs ≡ bs = sym (drop-cons bs 0 0 (omega (arith, long))) in
    ap (λ (l : List ℕ). get_or bs 0 0 ∷ get_or bs 1 0 ∷ (take 2 (drop 2 bs) ++ l)) rest
    ∙ (ap (λ (l : List ℕ). get_or bs 0 0 ∷ get_or bs 1 0 ∷ l) later
    ∙ (ap (λ (l : List ℕ). get_or bs 0 0 ∷ l) second ∙ first))

joined : (a b : ℕ) (x y z t : List ℕ) → a ≡ b → x ≡ y → z ≡ t → (p : ℕ) → ((p ∷ a ∷ []) ++ x) ++ z ≡ ((p ∷ b ∷ []) ++ y) ++ t
joined a b x y z t e f g p = cc

eight_back : (bs : List ℕ) → length bs ≡ 8 → AreBytes bs → field_bytes (fields_of_bytes bs) ≡ bs
unfolding field_bytes
eight_back bs long are =
    let two = take 2 (drop 2 bs) in
    let four = take 4 (drop 4 bs) in
    joined (get_or bs 1 0 % 16 + 16 * (get_or bs 1 0 / 16)) (get_or bs 1 0) _ two _ four (two_parts (get_or bs 1 0))
    (half_back two (length-take-le 2 (drop 2 bs) (omega (arith, long, length-drop 2 bs))) (taken_are 2 (drop 2 bs) (dropped_are 2 bs are)))
    (word_back four (length-take-le 4 (drop 4 bs) (omega (arith, long, length-drop 4 bs))) (taken_are 4 (drop 4 bs) (dropped_are 4 bs are)))
    (get_or bs 0 0)
    ∙ parts_are bs long

slots_back : (n : ℕ) (bs : List ℕ) → length bs ≡ 8 * n → AreBytes bs → flat_map field_bytes (slots_from n bs) ≡ bs
slots_back zero bs long are = sym (nil_from_length bs long)
slots_back (suc n) bs long are =
    let rest : length (drop 8 bs) ≡ 8 * n = omega (arith, long, length-drop 8 bs) in
    let front : length (take 8 bs) ≡ 8 = length-take-le 8 bs (omega (arith, long)) in
    ap₂ (λ (x y : List ℕ). x ++ y) (eight_back (take 8 bs) front (taken_are 8 bs are)) (slots_back n (drop 8 bs) rest (dropped_are 8 bs are))
    ∙ take-append-drop 8 bs

-- code has one spelling
pub spelled_once : (bs : List ℕ) (places : List Place) → AreBytes bs → Spells bs places → bs ≡ code_bytes places
unfolding code_bytes
spelled_once bs places are spells =
    sym (slots_back (length bs / 8) bs (omega (arith, spells.long)) are) ∙ ap (flat_map field_bytes) spells.fields

-- ---- from code

narrow_back : (i : Insn) (fs : List Fields) (places : List Place) → is_wide i ≡ false → named_from None fs ≡ places
    → named_from None (fields_of i ∷ fs) ≡ place.Insn i ∷ places
narrow_back i fs places narrow rest =
    let f = fields_of i in
    let chosen : named_from None (f ∷ fs) ≡ place.Insn (insn_named f) ∷ named_from None fs
    = ap (λ (b : Bool). if b then named_from (Some (register_named f.dst, cast_unsigned w32 f.imm)) fs else place.Insn (insn_named f) ∷ named_from None fs)
    (is_wide_opcode-fields_of i ∙ narrow) in
    chosen ∙ ap₂ (λ (j : Insn) (ps : List Place). place.Insn j ∷ ps) (insn_named-fields_of i narrow) rest

whole_value : (value : ℕ) → value < 2 ^ 64 → value % 2 ^ 32 + 2 ^ 32 * ((value / 2 ^ 32) % 2 ^ 32) ≡ value
whole_value value small = omega (arith, small)

wide_back : (dst : Register) (value : ℕ) → value < 2 ^ 64
    → LoadWide (register_named (number_of dst)) (wide_named (cast_unsigned w32 (cast_signed w32 (value % 2 ^ 32))) (cast_unsigned w32 (cast_signed w32 ((value / 2 ^ 32) % 2 ^ 32))))
    ≡ LoadWide dst value
wide_back dst value small =
    let low : cast_unsigned w32 (cast_signed w32 (value % 2 ^ 32)) ≡ value % 2 ^ 32 = of_z-to_z w32 (value % 2 ^ 32) (omega arith) in
    let high : cast_unsigned w32 (cast_signed w32 ((value / 2 ^ 32) % 2 ^ 32)) ≡ (value / 2 ^ 32) % 2 ^ 32 = of_z-to_z w32 ((value / 2 ^ 32) % 2 ^ 32) (omega arith) in
    ap₂ LoadWide (register_named-number_of dst) (ap₂ wide_named low high ∙ whole_value value small)

-- the row of places that its slots name is the code
named_back : (high : ℕ) (places : List Place) → is_whole false places ≡ true → AreWide places → named_from None (fields_behind high places) ≡ places
named_back high [] whole wide = refl
named_back high (place.Second ∷ places) whole wide = absurd (let bad : false ≡ true = whole in cc)
named_back high (place.Insn (LoadWide dst value) ∷ []) whole wide = absurd (let bad : false ≡ true = whole in cc)
named_back high (place.Insn (LoadWide dst value) ∷ place.Insn i ∷ places) whole wide = absurd (let bad : false ≡ true = whole in cc)
named_back high (place.Insn (LoadWide dst value) ∷ place.Second ∷ places) whole wide =
    ap₂ (λ (i : Insn) (ps : List Place). place.Insn i ∷ place.Second ∷ ps) (wide_back dst value wide.0) (named_back 0 places whole wide.1.1)
named_back high (place.Insn i ∷ places) whole wide =
    narrow_back i (fields_behind (high_half i) places) places refl (named_back (high_half i) places whole wide.1)

code_back : (places : List Place) → Spells (code_bytes places) places → AreWide places → code_named (code_bytes places) ≡ places
code_back places spells wide = ap (named_from None) spells.fields ∙ named_back 0 places spells.code.whole wide

pub code_same : (p q : List Place) → Spells (code_bytes p) p → Spells (code_bytes q) q → AreWide p → AreWide q → code_bytes p ≡ code_bytes q → p ≡ q
code_same p q sp sq wp wq same = sym (code_back p sp wp) ∙ (ap code_named same ∙ code_back q sq wq)
