-- Each number is read as what it was written from.
use Rattle.std.proofs.Common.{arith, ◌≡◌, ℕ, zero, suc, ◌*◌, ◌/◌, ◌%◌, ◌^◌, ◌<◌, ◌≤◌, ℤ, pos, negsuc, neg_ℤ, Bool}
use Rattle.std.proofs.Common.{true, false, ◌&&◌, ◌==◌, nat_lt, nat_le, if◌then◌else◌, List, [], ◌∷◌, length, drop, Ok}
use Rattle.std.proofs.Common.{Err, refl, ap, ap₂, ◌∙◌}
use Rattle.std.specs.Prelude.{Result}
use Rattle.std.specs.List.{list_all}
use Rattle.std.specs.Char.{digit_value, digit_char}
use Rattle.std.specs.Fmt.{decimal, signed_decimal}
use Rattle.std.specs.Str.Parse.{AllDigits, digits_value}
use Rattle.std.proofs.lemmas.Bool.{lt-ltb}
use Rattle.std.proofs.lemmas.Bool.Decides.{nat_tests}
use Rattle.std.proofs.lemmas.Fmt.{decimal_is_IsNumeral}
use Rattle.std.proofs.lemmas.Int.Digits.{digits_value_push}
use Rattle.std.proofs.lemmas.List.{length-append}
use Rattle.std.proofs.lemmas.List.Folds.{list_all-append}
use Rattle.bpf_asm.specs.declared.line.LineFault.{LineFault}
use Rattle.bpf_asm.specs.declared.line.LineFault.TheVariants.{BadNumber, OutOfRange}
use Rattle.bpf_asm.specs.Numbers.{and_then, has, numeral, number_named, offset_named, within, number_said, wide_said}
use Rattle.bpf_asm.specs.Numbers.{wide_within, jump_said, negative, positive}
use Rattle.bpf_asm.specs.Parts.{hex_text, wide_text, offset_text}
use Rattle.bpf_asm.proofs.Plain.{is_plain, is_solid}

-- the number has this many values below 0, and from 0 on
abbrev pub IsWithin : ℕ → ℤ → Type 0
IsWithin half (pos n) = n < half
IsWithin half (negsuc n) = n < half

-- ---- digits

digit_byte : (c : ℕ) → digit_value c < 10 → (48 ≤ c) × (c < 58)
digit_byte c low = grind (arith, nat_tests)

abbrev DigitsPass : ℕ → List ℕ → Type 0
DigitsPass radix cs = list_all (λ c. nat_lt (digit_value c) radix) cs ≡ true

digits_pass : (radix : ℕ) (cs : List ℕ) → AllDigits radix cs → DigitsPass radix cs
digits_pass radix [] all = refl
digits_pass radix (c ∷ cs) all = ap₂ (λ (a b : Bool). a && b) (lt-ltb (digit_value c) radix all.0) (digits_pass radix cs all.1)

numeral_is : (radix : ℕ) (cs : List ℕ) (n : ℕ) → 0 < length cs → DigitsPass radix cs → digits_value radix cs ≡ n
    → n < 2 ^ 64 → numeral radix cs ≡ Ok n
numeral_is radix cs n some all value small =
    ap (λ (b : Bool). if b then (if nat_lt (digits_value radix cs) (2 ^ 64) then Ok (digits_value radix cs) else Err OutOfRange) else Err BadNumber)
    (ap₂ (λ (a b : Bool). a && b) (lt-ltb 0 (length cs) some) all)
    ∙ ap (λ (k : ℕ). if nat_lt k (2 ^ 64) then Ok k else Err OutOfRange) value
    ∙ ap (λ (b : Bool). if b then Ok n else Err OutOfRange) (lt-ltb n (2 ^ 64) small)

numeral_back : (n : ℕ) → n < 2 ^ 64 → numeral 10 (decimal n) ≡ Ok n
numeral_back n small =
    let is = decimal_is_IsNumeral n small in
    numeral_is 10 (decimal n) n is.0.0 (digits_pass 10 (decimal n) is.0.1) is.1 small

-- ---- the first bytes

pub has_first : (byte c : ℕ) (cs : List ℕ) → has 0 byte (c ∷ cs) ≡ (c == byte)
has_first byte c cs = ap (λ (b : Bool). b && (c == byte)) (lt-ltb 0 (length (c ∷ cs)) (omega arith))

has_second : (byte c d : ℕ) (cs : List ℕ) → has 1 byte (c ∷ d ∷ cs) ≡ (d == byte)
has_second byte c d cs = ap (λ (b : Bool). b && (d == byte)) (lt-ltb 1 (length (c ∷ d ∷ cs)) (omega arith))

no_digit : (byte c : ℕ) → digit_value c < 10 → (48 ≤ byte → 57 < byte) → (c == byte) ≡ false
no_digit byte c low apart = let d = digit_byte c low in grind (arith, nat_tests)

-- digits neither begin nor go on with what is no digit
not_first : (byte : ℕ) (cs : List ℕ) → AllDigits 10 cs → (48 ≤ byte → 57 < byte) → has 0 byte cs ≡ false
not_first byte [] all apart = refl
not_first byte (c ∷ cs) all apart = has_first byte c cs ∙ no_digit byte c all.0 apart

not_second : (byte : ℕ) (cs : List ℕ) → AllDigits 10 cs → (48 ≤ byte → 57 < byte) → has 1 byte cs ≡ false
not_second byte [] all apart = refl
not_second byte (c ∷ []) all apart = refl
not_second byte (c ∷ d ∷ cs) all apart = has_second byte c d cs ∙ no_digit byte d all.1.0 apart

either_way : (b : Bool) → (b && false) ≡ false
either_way true = refl
either_way false = refl

-- ---- numbers

abbrev Named : Type 0
Named = Result (Bool × ℕ) LineFault

by_sign : (text : List ℕ) (a b : Bool) → has 0 45 text ≡ a → (has 0 48 text && has 1 120 text) ≡ b
    → number_named text ≡ (if a then and_then (numeral 10 (drop 1 text)) negative else and_then (if b then numeral 16 (drop 2 text) else numeral 10 text) positive)
by_sign text a b x y =
    ap₂ (λ (p q : Bool). if p then and_then (numeral 10 (drop 1 text)) negative else and_then (if q then numeral 16 (drop 2 text) else numeral 10 text) positive) x y

named_positive : (n : ℕ) → n < 2 ^ 64 → number_named (decimal n) ≡ Ok (false, n)
named_positive n small =
    let is = decimal_is_IsNumeral n small in
    by_sign (decimal n) false false (not_first 45 (decimal n) is.0.1 (λ le. omega (arith, le)))
    (ap (λ (b : Bool). has 0 48 (decimal n) && b) (not_second 120 (decimal n) is.0.1 (λ le. omega arith)) ∙ either_way (has 0 48 (decimal n)))
    ∙ ap (λ (r : Result ℕ LineFault). and_then r positive) (numeral_back n small)

named_negative : (n : ℕ) → n < 2 ^ 64 → number_named (45 ∷ decimal n) ≡ Ok (true, n)
named_negative n small =
    by_sign (45 ∷ decimal n) true (has 0 48 (45 ∷ decimal n) && has 1 120 (45 ∷ decimal n)) (has_first 45 45 (decimal n)) refl
    ∙ ap (λ (r : Result ℕ LineFault). and_then r negative) (numeral_back n small)

within_pos : (half n : ℕ) → n < half → within half (false, n) ≡ Ok (pos n)
within_pos half n low = ap (λ (b : Bool). if b then Ok (pos n) else Err OutOfRange) (lt-ltb n half low)

within_neg : (half n : ℕ) → n < half → within half (true, suc n) ≡ Ok (negsuc n)
within_neg half n low =
    let inside : nat_le (suc n) half ≡ true = grind (arith, nat_tests) in
    ap (λ (b : Bool). if b then Ok (neg_ℤ (pos (suc n))) else Err OutOfRange) inside

pub number_back : (z : ℤ) → IsWithin (2 ^ 31) z → number_said (signed_decimal z) ≡ Ok z
number_back (pos n) low = ap (λ (r : Named). and_then r (within (2 ^ 31))) (named_positive n (omega (arith, low))) ∙ within_pos (2 ^ 31) n low
number_back (negsuc n) low = ap (λ (r : Named). and_then r (within (2 ^ 31))) (named_negative (suc n) (omega (arith, low))) ∙ within_neg (2 ^ 31) n low

-- ---- offsets

by_offset_sign : (text : List ℕ) (a b : Bool) → has 0 45 text ≡ a → has 0 43 text ≡ b
    → offset_named text ≡ (if a then and_then (numeral 10 (drop 1 text)) negative else if b then and_then (numeral 10 (drop 1 text)) positive else Err BadNumber)
by_offset_sign text a b x y =
    ap₂ (λ (p q : Bool). if p then and_then (numeral 10 (drop 1 text)) negative else if q then and_then (numeral 10 (drop 1 text)) positive else Err BadNumber) x y

pub jump_back : (half : ℕ) (z : ℤ) → half ≤ 2 ^ 31 → IsWithin half z → jump_said half (offset_text z) ≡ Ok z
jump_back half (pos n) most low =
    ap (λ (r : Named). and_then r (within half))
    (by_offset_sign (43 ∷ decimal n) false true (has_first 45 43 (decimal n)) (has_first 43 43 (decimal n)) ∙ ap (λ (r :
    Result ℕ LineFault). and_then r positive) (numeral_back n (omega (arith, low, most))))
    ∙ within_pos half n low
jump_back half (negsuc n) most low =
    ap (λ (r : Named). and_then r (within half))
    (by_offset_sign (45 ∷ decimal (suc n)) true (has 0 43 (45 ∷ decimal (suc n))) (has_first 45 45 (decimal (suc n)))
    refl ∙ ap (λ (r : Result ℕ LineFault). and_then r negative) (numeral_back (suc n) (omega (arith, low, most))))
    ∙ within_neg half n low

-- ---- hexadecimal numbers

abbrev hex_bound : ℕ → ℕ
hex_bound zero = 1
hex_bound (suc k) = 16 * hex_bound k

digit_back : (d : ℕ) → d < 16 → digit_value (digit_char d) ≡ d
digit_back d low = grind (arith, nat_tests)

digit_plain : (d : ℕ) → d < 16 → is_plain (digit_char d) ≡ true
digit_plain d low = grind (arith, nat_tests)

hex_pass : (k n : ℕ) → DigitsPass 16 (hex_text k n)
hex_pass zero n = refl
hex_pass (suc k) n =
    let low : n % 16 < 16 = omega arith in
    list_all-append (λ c. nat_lt (digit_value c) 16) (hex_text k (n / 16)) (digit_char (n % 16) ∷ [])
    ∙ ap₂ (λ (a b : Bool). a && b) (hex_pass k (n / 16)) (ap (λ (b : Bool). b && true) (lt-ltb (digit_value (digit_char (n % 16))) 16 (omega (arith, digit_back (n % 16) low, low))))

hex_value : (k n : ℕ) → n < hex_bound k → digits_value 16 (hex_text k n) ≡ n
hex_value zero n low = omega (arith, low)
hex_value (suc k) n low =
    let rest : n / 16 < hex_bound k = omega (arith, low) in
    let digit : n % 16 < 16 = omega arith in
    digits_value_push 16 (hex_text k (n / 16)) (digit_char (n % 16))
    ∙ omega (arith, hex_value k (n / 16) rest, digit_back (n % 16) digit)

hex_plain : (k n : ℕ) → list_all is_plain (hex_text k n) ≡ true
hex_plain zero n = refl
hex_plain (suc k) n =
    let low : n % 16 < 16 = omega arith in
    list_all-append is_plain (hex_text k (n / 16)) (digit_char (n % 16) ∷ [])
    ∙ ap₂ (λ (a b : Bool). a && b) (hex_plain k (n / 16)) (ap (λ (b : Bool). b && true) (digit_plain (n % 16) low))

some_hex : (k n : ℕ) → 0 < length (hex_text (suc k) n)
some_hex k n = omega (arith, length-append (hex_text k (n / 16)) (digit_char (n % 16) ∷ []))

sixteen : hex_bound 16 ≡ 2 ^ 64
sixteen = refl

named_wide : (digits : List ℕ) (n : ℕ) → numeral 16 digits ≡ Ok n → number_named (48 ∷ 120 ∷ digits) ≡ Ok (false, n)
named_wide digits n is =
    by_sign (48 ∷ 120 ∷ digits) false true (has_first 45 48 (120 ∷ digits)) (ap₂ (λ (a b : Bool). a && b) (has_first 48 48 (120 ∷ digits)) (has_second 120 48 120 digits))
    ∙ ap (λ (r : Result ℕ LineFault). and_then r positive) is

pub wide_back : (n : ℕ) → n < 2 ^ 64 → wide_said (wide_text n) ≡ Ok n
unfolding wide_text
wide_back n small =
    let value = hex_value 16 n (omega (arith, small, sixteen)) in
    ap (λ (r : Named). and_then r wide_within) (named_wide (hex_text 16 n) n (numeral_is 16 (hex_text 16 n) n (some_hex 15 n) (hex_pass 16 n) value small))

-- ---- they are solid

digits_plain : (cs : List ℕ) → AllDigits 10 cs → list_all is_plain cs ≡ true
digits_plain [] all = refl
digits_plain (c ∷ cs) all = ap₂ (λ (a b : Bool). a && b) (let d = digit_byte c all.0 in let p : is_plain c ≡ true = grind (arith, nat_tests) in p) (digits_plain cs all.1)

decimal_plain : (n : ℕ) → n < 2 ^ 64 → list_all is_plain (decimal n) ≡ true
decimal_plain n small = digits_plain (decimal n) (decimal_is_IsNumeral n small).0.1

pub solid_by : (t : List ℕ) → 0 < length t → list_all is_plain t ≡ true → is_solid t ≡ true
solid_by t some plain = ap₂ (λ (a b : Bool). a && b) (lt-ltb 0 (length t) some) plain

pub number_solid : (z : ℤ) → IsWithin (2 ^ 31) z → is_solid (signed_decimal z) ≡ true
number_solid (pos n) low = let small : n < 2 ^ 64 = omega (arith, low) in solid_by (decimal n) (decimal_is_IsNumeral n small).0.0 (decimal_plain n small)
number_solid (negsuc n) low = let small : suc n < 2 ^ 64 = omega (arith, low) in solid_by (45 ∷ decimal (suc n)) (omega arith) (decimal_plain (suc n) small)

pub offset_plain : (half : ℕ) (z : ℤ) → half ≤ 2 ^ 31 → IsWithin half z → list_all is_plain (offset_text z) ≡ true
offset_plain half (pos n) most low = let small : n < 2 ^ 64 = omega (arith, low, most) in decimal_plain n small
offset_plain half (negsuc n) most low = let small : suc n < 2 ^ 64 = omega (arith, low, most) in decimal_plain (suc n) small

some_offset : (z : ℤ) → 0 < length (offset_text z)
some_offset (pos n) = omega arith
some_offset (negsuc n) = omega arith

pub offset_solid : (half : ℕ) (z : ℤ) → half ≤ 2 ^ 31 → IsWithin half z → is_solid (offset_text z) ≡ true
offset_solid half z most low = solid_by (offset_text z) (some_offset z) (offset_plain half z most low)

pub wide_solid : (n : ℕ) → is_solid (wide_text n) ≡ true
unfolding wide_text
wide_solid n = solid_by (48 ∷ 120 ∷ hex_text 16 n) (omega arith) (hex_plain 16 n)

-- a number is no register
pub number_no_register : (z : ℤ) → IsWithin (2 ^ 31) z → has 0 114 (signed_decimal z) ≡ false
number_no_register (pos n) low = let small : n < 2 ^ 64 = omega (arith, low) in not_first 114 (decimal n) (decimal_is_IsNumeral n small).0.1 (λ le. omega arith)
number_no_register (negsuc n) low = has_first 114 45 (decimal (suc n))
