-- Numbers in assembly text.
use Rattle.std.specs.Prelude.{slice_index_or, ℕ, ◌^◌, ℤ, pos, neg_ℤ, Bool, true, false, ◌&&◌, ◌==◌, nat_lt, nat_le}
use Rattle.std.specs.Prelude.{if◌then◌else◌, List, length, drop, Result, Ok, Err}
use Rattle.std.specs.List.{list_all}
use Rattle.std.specs.Char.{digit_value}
use Rattle.std.specs.Str.Parse.{digits_value}
use Rattle.bpf_asm.specs.declared.line.LineFault.{LineFault}
use Rattle.bpf_asm.specs.declared.line.LineFault.TheVariants.{BadNumber, OutOfRange}

abbrev pub and_then : {A B : Type 0} → Result A LineFault → (A → Result B LineFault) → Result B LineFault
and_then (Ok a) f = f a
and_then (Err e) f = Err e

-- digits alone, and one at least
abbrev pub is_numeral : ℕ → List ℕ → Bool
is_numeral radix text = nat_lt 0 (length text) && list_all (λ c. nat_lt (digit_value c) radix) text

-- the number that digits write; what isn't below 2^64 is out of every range
abbrev pub numeral : ℕ → List ℕ → Result ℕ LineFault
numeral radix text =
    if is_numeral radix text then
    (if nat_lt (digits_value radix text) (2 ^ 64) then Ok (digits_value radix text) else Err OutOfRange) else Err BadNumber

-- the byte at this place
abbrev pub has : ℕ → ℕ → List ℕ → Bool
has k byte text = nat_lt k (length text) && (slice_index_or text k 0 == byte)

-- a magnitude, and whether `-` stands before it
abbrev pub negative : ℕ → Result (Bool × ℕ) LineFault
negative n = Ok (true, n)

abbrev pub positive : ℕ → Result (Bool × ℕ) LineFault
positive n = Ok (false, n)

-- digits, or `0x` and hexadecimal digits
abbrev pub magnitude_named : List ℕ → Result ℕ LineFault
magnitude_named text = if has 0 48 text && has 1 120 text then numeral 16 (drop 2 text) else numeral 10 text

-- digits with `-` before them where negative, or a magnitude
abbrev pub number_named : List ℕ → Result (Bool × ℕ) LineFault
number_named text = if has 0 45 text then and_then (numeral 10 (drop 1 text)) negative else and_then (magnitude_named text) positive

-- `+` or `-`, and digits
abbrev pub offset_named : List ℕ → Result (Bool × ℕ) LineFault
offset_named text =
    if has 0 45 text then and_then (numeral 10 (drop 1 text)) negative else
    if has 0 43 text then and_then (numeral 10 (drop 1 text)) positive else Err BadNumber

-- from -half to half, half itself left out
abbrev pub within : ℕ → Bool × ℕ → Result ℤ LineFault
within half (true, n) = if nat_le n half then Ok (neg_ℤ (pos n)) else Err OutOfRange
within half (false, n) = if nat_lt n half then Ok (pos n) else Err OutOfRange

-- 32 bits with sign
abbrev pub number_said : List ℕ → Result ℤ LineFault
number_said text = and_then (number_named text) (within (2 ^ 31))

abbrev pub wide_within : Bool × ℕ → Result ℕ LineFault
wide_within (true, n) = if n == 0 then Ok 0 else Err OutOfRange
wide_within (false, n) = Ok n

-- 64 bits without sign
abbrev pub wide_said : List ℕ → Result ℕ LineFault
wide_said text = and_then (number_named text) wide_within

abbrev pub jump_said : ℕ → List ℕ → Result ℤ LineFault
jump_said half text = and_then (offset_named text) (within half)
