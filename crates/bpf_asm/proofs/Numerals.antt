-- Numbers read digit by digit.
use Rattle.std.proofs.Common.{◌≡◌, ℕ, ◌^◌, Bool, nat_lt, if◌then◌else◌, List, drop, Option, Some, None}
use Rattle.std.specs.List.{list_all}
use Rattle.std.specs.Char.{digit_value}
use Rattle.std.specs.Str.Parse.{digits_value, digits_value_after}

abbrev pub is_digit : ℕ → ℕ → Bool
is_digit radix c = nat_lt (digit_value c) radix

-- a number of 64 bits, or none where it has more
abbrev pub small : ℕ → Option ℕ
small n = if nat_lt n (2 ^ 64) then Some n else None

-- n is the number that the first digits write
abbrev pub SoFar : ℕ → List ℕ → ℕ → Option ℕ → Type 0
SoFar radix text i value =
    (n : ℕ) × (digits_value_after radix n (drop i text) ≡ digits_value radix text) × (list_all (is_digit radix) (drop i text) ≡ list_all (is_digit radix) text) × (value ≡ small n)
