-- Hex text: pairs of digits, with blanks between pairs.
use Rattle.std.specs.Prelude.{◌≡◌, ℕ, suc, ◌+◌, ◌-◌, ◌*◌, ◌/◌, ◌%◌, Bool, ◌&&◌, ◌||◌, ◌==◌, nat_le, if◌then◌else◌}
use Rattle.std.specs.Prelude.{List, [], ◌∷◌, ◌++◌, Option, Some, None, Result, Ok, Err}
use Rattle.std.specs.Char.{digit_char}
use Rattle.std.specs.Global.{Vec}
use Rattle.report_texts.specs.declared.hex.HexFault.{HexFault}
use Rattle.report_texts.specs.declared.hex.HexFault.TheVariants.{NotHex, Memory}

-- a digit's value: 0 to 9, a to f and A to F
abbrev pub digit_of : ℕ → Option ℕ
digit_of b =
    if nat_le 48 b && nat_le b 57 then Some (b - 48) else
    if nat_le 97 b && nat_le b 102 then Some (b - 97 + 10) else
    if nat_le 65 b && nat_le b 70 then Some (b - 65 + 10) else None

-- space, tab, CR and LF
abbrev pub is_blank : ℕ → Bool
is_blank b = (b == 32) || ((b == 9) || ((b == 13) || (b == 10)))

abbrev pub both : Option ℕ → Option ℕ → Option ℕ
both None low = None
both (Some high) None = None
both (Some high) (Some low) = Some (16 * high + low)

-- the byte that two digits say
abbrev pub pair_of : ℕ → ℕ → Option ℕ
pair_of high low = both (digit_of high) (digit_of low)

-- the bytes said, or the place of the first byte that begins no pair
abbrev pub Hex : Type 0
Hex = Result (List ℕ) ℕ

abbrev pub not_hex : ℕ → Hex
not_hex at = Err at

abbrev pub said_first : ℕ → Hex → Hex
said_first byte (Ok bytes) = Ok (byte ∷ bytes)
said_first byte (Err at) = Err at

abbrev pub or_not_hex : ℕ → Option ℕ → Hex → Hex
or_not_hex at None later = Err at
or_not_hex at (Some byte) later = said_first byte later

-- the rest of a text, from this place on
abbrev pub hex_from : ℕ → List ℕ → Hex
hex_from at [] = Ok []
hex_from at (b ∷ []) = if is_blank b then Ok [] else not_hex at
hex_from at (b ∷ d ∷ rest) = if is_blank b then hex_from (suc at) (d ∷ rest) else or_not_hex at (pair_of b d) (hex_from (suc (suc at)) rest)

abbrev pub hex_of : List ℕ → Hex
hex_of text = hex_from 0 text

-- what was read is what is said, want of memory aside
abbrev pub IsRead : Hex → Result (Vec ℕ) HexFault → Type 0
IsRead h (Ok bytes) = h ≡ Ok bytes.items
IsRead h (Err (NotHex at)) = h ≡ Err at
IsRead h (Err Memory) = Unit {0}

-- the bytes so far, and then those of the rest
abbrev pub said_before : List ℕ → Hex → Hex
said_before before (Ok bytes) = Ok (before ++ bytes)
said_before before (Err at) = Err at

-- ---- written

-- two digits a byte
abbrev pub pair_text : ℕ → List ℕ
pair_text b = digit_char (b / 16) ∷ digit_char (b % 16) ∷ []

abbrev pub hex_text : List ℕ → List ℕ
hex_text [] = []
hex_text (b ∷ bytes) = pair_text b ++ hex_text bytes

-- behind each pair a space, or LF where a slot ends
abbrev pub separator_at : ℕ → ℕ
separator_at at = if at % 8 == 7 then 10 else 32

abbrev pub hex_text_from : ℕ → List ℕ → List ℕ
hex_text_from at [] = []
hex_text_from at (b ∷ bytes) = (pair_text b ++ separator_at at ∷ []) ++ hex_text_from (at + 1) bytes

abbrev pub hex_lines : List ℕ → List ℕ
hex_lines bytes = hex_text_from 0 bytes
