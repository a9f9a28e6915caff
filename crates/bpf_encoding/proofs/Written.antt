-- Bytes that are written slot by slot.
use Rattle.std.proofs.Common.{◌≡◌, ℕ, zero, suc, ◌+◌, ◌*◌, ◌/◌, ◌<◌, ◌≤◌, Bool, true, false, List, [], ◌∷◌, ◌++◌}
use Rattle.std.proofs.Common.{length, get_or, take, drop, refl, sym, ap, ap₂, ◌∙◌, arith, append_assoc, add-one}
use Rattle.std.proofs.Common.{length-append}
use Rattle.std.proofs.lemmas.List.{append-nil, take_all, take-append-le, drop-append-le, nil_from_length, length-drop}
use Rattle.std.proofs.Math.Seq.{drop-cons}
use Rattle.bpf_encoding.specs.Fields.{Fields, fields_of_bytes, slots_from}
use Rattle.bpf_encoding.specs.Spelling.{is_wide, is_whole, places_from, places_of, place_fields, high_behind, fields_behind, fields_of_code}
use Rattle.bpf_encoding.specs.Spells.{IsCode, Spells, IsLengthFault}
use Rattle.bpf_encoding.specs.declared.insn.Insn.{Insn}
use Rattle.bpf_encoding.specs.declared.insn.Place.{Place}
use Rattle.bpf_encoding.specs.declared.insn.Place.TheVariants as place
use Rattle.bpf_encoding.specs.declared.decode.DecodeFault.{DecodeFault}
use Rattle.bpf_encoding.specs.declared.decode.DecodeFault.TheVariants.{NoCode, Length, TooLong, WideCut, UnusedField}
use Rattle.bpf_encoding.specs.declared.decode.DecodeFault.TheVariants.{Undefined, OutsideProfile, Memory}

-- one slot more at the end
pub slots_from-append : (n : ℕ) (bytes eight : List ℕ) → length bytes ≡ 8 * n → length eight ≡ 8
    → slots_from (suc n) (bytes ++ eight) ≡ slots_from n bytes ++ fields_of_bytes eight ∷ []
slots_from-append zero bytes eight none long =
    ap (λ (b : List ℕ). fields_of_bytes (take 8 (b ++ eight)) ∷ []) (nil_from_length bytes none) ∙ ap (λ (b : List ℕ). fields_of_bytes b ∷ []) (take_all 8 eight (omega arith))
slots_from-append (suc n) bytes eight some long =
    let some8 : length bytes ≡ 8 * n + 8 = omega arith in
    let rest : length (drop 8 bytes) ≡ 8 * n = omega (arith, length-drop 8 bytes) in
    ap₂ (λ (b : List ℕ) (fs : List Fields). fields_of_bytes b ∷ fs) (take-append-le 8 bytes eight (omega arith))
    (ap (slots_from (suc n)) (drop-append-le 8 bytes eight (omega arith)) ∙ slots_from-append n (drop 8 bytes) eight rest long)

-- the invariant goes on by one place
pub slots_go_on : (i : ℕ) (places : List Place) (d : Place) (bytes eight : List ℕ) (high : ℕ) (total : List Fields)
    → i < length places → length bytes ≡ 8 * i → length eight ≡ 8
    → fields_of_bytes eight ≡ place_fields high (get_or places i d) → slots_from i bytes ++ fields_behind high (drop i places) ≡ total
    → slots_from (i + 1) (bytes ++ eight) ++ fields_behind (high_behind (get_or places i d)) (drop (i + 1) places) ≡ total
slots_go_on i places d bytes eight high total lt long eights is so_far =
    let p = get_or places i d in
    let tail = fields_behind (high_behind p) (drop (suc i) places) in
    let opened : drop i places ≡ p ∷ drop (suc i) places = drop-cons places i d lt in
    ap (λ (n : ℕ). slots_from n (bytes ++ eight) ++ fields_behind (high_behind p) (drop n places)) (add-one i)
    ∙ ap (λ (fs : List Fields). fs ++ tail) (slots_from-append i bytes eight long eights)
    ∙ append_assoc (slots_from i bytes) (fields_of_bytes eight ∷ []) tail
    ∙ ap (λ (f : Fields). slots_from i bytes ++ f ∷ tail) is
    ∙ ap (λ (ps : List Place). slots_from i bytes ++ fields_behind high ps) (sym opened)
    ∙ so_far

pub written_is_spelled : (i : ℕ) (bytes : List ℕ) (places : List Place) (high : ℕ) → length places ≤ i
    → i ≤ length places → length bytes ≡ 8 * i → IsCode places
    → slots_from i bytes ++ fields_behind high (drop i places) ≡ fields_of_code places → Spells bytes places
written_is_spelled i bytes places high ge le long code so_far =
    let n : length bytes / 8 ≡ i = omega arith in
    let done : drop i places ≡ [] = nil_from_length (drop i places) (omega (arith, length-drop i places)) in
    record {
      long = omega arith;
      code = code;
      fields = ap (λ (k : ℕ). slots_from k bytes) n ∙ sym (append-nil (slots_from i bytes)) ∙ ap (λ (ps : List Place). slots_from i bytes ++ fields_behind high ps) (sym done) ∙ so_far;
    }

-- ---- code of instructions

places_from-append : (b : Bool) (ps : List Place) → places_from b ps ≡ places_from b [] ++ ps
places_from-append true ps = refl
places_from-append false ps = refl

-- one instruction more
pub places_go_on : (i : ℕ) (insns : List Insn) (d : Insn) (places total : List Place) → i < length insns → places ++ places_of (drop i insns) ≡ total
    → (places ++ places_of (get_or insns i d ∷ [])) ++ places_of (drop (i + 1) insns) ≡ total
places_go_on i insns d places total lt so_far =
    let x = get_or insns i d in
    let tail = places_of (drop (suc i) insns) in
    ap (λ (n : ℕ). (places ++ places_of (x ∷ [])) ++ places_of (drop n insns)) (add-one i)
    ∙ append_assoc places (places_of (x ∷ [])) tail
    ∙ ap (λ (ps : List Place). places ++ place.Insn x ∷ ps) (sym (places_from-append (is_wide x) tail))
    ∙ ap (λ (is : List Insn). places ++ places_of is) (sym (drop-cons insns i d lt))
    ∙ so_far

pub places_done : (i : ℕ) (insns : List Insn) (places total : List Place) → length insns ≤ i
    → places ++ places_of (drop i insns) ≡ total → places ≡ total
places_done i insns places total le so_far =
    let done : drop i insns ≡ [] = nil_from_length (drop i insns) (omega (arith, length-drop i insns)) in
    sym (append-nil places) ∙ ap (λ (is : List Insn). places ++ places_of is) (sym done) ∙ so_far

pub too_long : (i : ℕ) (insns : List Insn) (d : Insn) (places total : List Place) → i < length insns
    → 4096 < length places + length (places_of (get_or insns i d ∷ [])) → places ++ places_of (drop i insns) ≡ total
    → 4096 < length total
too_long i insns d places total lt more so_far =
    let x = get_or insns i d in
    let all = ap length (places_go_on i insns d places total lt so_far) in
    omega (arith, all, length-append (places ++ places_of (x ∷ [])) (places_of (drop (i + 1) insns)), length-append places (places_of (x ∷ [])))

is_whole-places_from : (b : Bool) (ps : List Place) → is_whole false ps ≡ true → is_whole b (places_from b ps) ≡ true
is_whole-places_from true ps h = h
is_whole-places_from false ps h = h

pub is_whole-places_of : (insns : List Insn) → is_whole false (places_of insns) ≡ true
is_whole-places_of [] = refl
is_whole-places_of (i ∷ insns) = is_whole-places_from (is_wide i) (places_of insns) (is_whole-places_of insns)

pub insns_are_code : (insns : List Insn) (places : List Place) → 0 < length insns → places ≡ places_of insns → length places ≤ 4096 → IsCode places
insns_are_code [] places some is short = absurd (omega arith)
insns_are_code (i ∷ insns) places some is short = record {
  some = let n = ap length is in omega (arith, n);
  short = short;
  whole = ap (is_whole false) is ∙ is_whole-places_of (i ∷ insns);
}

pub only_length : (insns : List Insn) (e : DecodeFault) → IsCode (places_of insns) → IsLengthFault insns e → e ≡ Memory
only_length insns Memory code h = refl
only_length insns NoCode code h = let none = ap (λ (is : List Insn). length (places_of is)) h in absurd (omega (arith, none, code.some))
only_length insns TooLong code h = absurd (omega (arith, code.short, h))
only_length insns Length code h = absurd h
only_length insns (WideCut slot) code h = absurd h
only_length insns (UnusedField slot) code h = absurd h
only_length insns (Undefined slot) code h = absurd h
only_length insns (OutsideProfile slot which) code h = absurd h
