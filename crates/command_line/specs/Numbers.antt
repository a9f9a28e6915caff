-- Which words are numbers, and what is said of one that is none.
use Rattle.std.specs.Prelude.{◌≡◌, ℕ, ◌<◌, ◌^◌, ◌++◌, List, codes}
use Rattle.std.specs.Str.Parse.{IsNumeral, digits_value}
use Rattle.command_line.specs.declared.numbers.NumberOption.{NumberOption}
use Rattle.command_line.specs.declared.numbers.NumberOption.TheVariants.{Workers, Tries, Bytes, From, Tail}
use Rattle.command_line.specs.declared.numbers.NoNumber.{NoNumber}
use Rattle.command_line.specs.declared.numbers.NoNumber.TheVariants.{Argument, Value}

-- decimal digits alone, of a number of 64 bits, and the number
abbrev pub digits_of : List ℕ → ℕ
digits_of text = digits_value 10 text

abbrev pub SaysDigits : List ℕ → Type 0
SaysDigits text = IsNumeral 10 text × (digits_of text < 2 ^ 64)

-- the name of an option that takes a number
abbrev pub id_of : NumberOption → List ℕ
id_of Workers = codes "workers"
id_of Tries = codes "tries"
id_of Bytes = codes "checkpoint-over"
id_of From = codes "from"
id_of Tail = codes "tail"

-- as a usage shows it
abbrev pub shown_of : NumberOption → List ℕ
shown_of Workers = codes "--workers <N>"
shown_of Tries = codes "--tries <N>"
shown_of Bytes = codes "--checkpoint-over <BYTES>"
shown_of From = codes "--from <P>"
shown_of Tail = codes "--tail <N>"

-- which numbers it takes
abbrev pub range_of : NumberOption → List ℕ
range_of Workers = codes "from 1 to 64"
range_of Tries = codes "from 1 to 1000"
range_of other = codes "of 64 bits"

-- what was given, for what, and what is wanted
abbrev pub no_number_line : (given shown range : List ℕ) → List ℕ
no_number_line given shown range =
    codes "error: invalid value '" ++ (given ++ (codes "' for '" ++ (shown ++ (codes "': no number " ++ (range ++ codes " in decimal digits")))))

abbrev pub no_number_text : NoNumber → List ℕ
no_number_text (Argument given) = no_number_line given.now (codes "[ARG]...") (codes "of 64 bits")
no_number_text (Value option given) = no_number_line given.now (shown_of option) (range_of option)
