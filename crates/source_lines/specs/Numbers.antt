-- Numbers and strings of DWARF 5 (sections 7.4 to 7.6): what begins these bytes, and the bytes behind it.
use Rattle.std.specs.Prelude.{ℕ, zero, suc, ◌+◌, ◌-◌, ◌*◌, ◌%◌, ◌^◌, Bool, false, ◌==◌, ◌&&◌, nat_lt, nat_le, if◌then◌else◌}
use Rattle.std.specs.Prelude.{List, [], ◌∷◌, length, take, drop, Option, Some, None, option_and_then}
use Rattle.std.specs.List.{position}
use Rattle.std.specs.Option.{option_map}

infixl 10 ◌>>=◌
abbrev pub ◌>>=◌ : {A B : Type 0} → Option A → (A → Option B) → Option B
o >>= f = option_and_then f o

-- a number of 64 bits
abbrev pub wrapped : ℕ → ℕ
wrapped n = n % 2 ^ 64

-- the last byte of a LEB128: with sign, its bit 6 stands for -64
abbrev pub last_bits : Bool → ℕ → ℕ
last_bits signed byte = if signed && nat_le 64 byte then byte + 0xffff_ffff_ffff_ff80 else byte

abbrev pub with_bits : ℕ → ℕ × List ℕ → ℕ × List ℕ
with_bits byte (high, rest) = (wrapped (wrapped (high * 128) + (byte - 128)), rest)

-- LEB128, as a number of 64 bits, in two's complement: seven bits a byte, the lowest first, up to a byte below 128, which is one of the
-- first so many
abbrev pub leb_within : ℕ → Bool → List ℕ → Option (ℕ × List ℕ)
leb_within zero signed bytes = None
leb_within (suc n) signed [] = None
leb_within (suc n) signed (byte ∷ rest) =
    if nat_lt byte 128 then Some (last_bits signed byte, rest) else option_map (with_bits byte) (leb_within n signed rest)

-- ten bytes have 64 bits
unfoldable pub leb : Bool → List ℕ → Option (ℕ × List ℕ)
leb signed bytes = leb_within 10 signed bytes

-- behind so many numbers
abbrev pub behind_lebs : ℕ → List ℕ → Option (List ℕ)
behind_lebs zero bytes = Some bytes
behind_lebs (suc n) bytes = leb false bytes >>= λ (_, rest). behind_lebs n rest

-- behind so many bytes
abbrev pub behind : ℕ → List ℕ → Option (List ℕ)
behind count bytes = if nat_lt (length bytes) count then None else Some (drop count bytes)

-- a string, up to the zero that ends it
abbrev pub text : List ℕ → Option (List ℕ × List ℕ)
text bytes = option_map (λ end. (take end bytes, drop (end + 1) bytes)) (position (λ byte. byte == 0) bytes)
