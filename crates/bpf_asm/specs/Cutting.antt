-- A line cut into its word and its operands.
use Rattle.std.specs.Prelude.{slice_index_or, ℕ, ◌-◌, Bool, ◌||◌, ◌==◌, if◌then◌else◌, List, [], ◌∷◌, map, length, take, drop}
use Rattle.std.specs.List.{prefix_len, suffix_len, position_or_len, before_first, slice_split}

-- a space or a tab
abbrev pub is_blank : ℕ → Bool
is_blank b = (b == 32) || (b == 9)

abbrev pub trim_start : List ℕ → List ℕ
trim_start text = drop (prefix_len is_blank text) text

abbrev pub trim_end : List ℕ → List ℕ
trim_end text = take (length text - suffix_len is_blank text) text

-- without blanks at the ends
unfoldable pub trim : List ℕ → List ℕ
trim text = trim_end (trim_start text)

-- what the line says: from `;` on it is a comment
abbrev pub said_in : List ℕ → List ℕ
said_in line = trim (before_first (λ b. b == 59) line)

-- the word goes up to the first blank
abbrev pub word_of : List ℕ → List ℕ
word_of text = before_first is_blank text

abbrev pub rest_of : List ℕ → List ℕ
rest_of text = drop (position_or_len is_blank text) text

abbrev pub is_empty : List ℕ → Bool
is_empty text = length text == 0

-- the operands: the rest is cut at commas, and each is trimmed
abbrev pub operand_texts : List ℕ → List (List ℕ)
operand_texts rest = if is_empty (trim rest) then [] else map trim (slice_split (λ b. b == 44) rest)

abbrev pub text_at : ℕ → List (List ℕ) → List ℕ
text_at k texts = slice_index_or texts k []

abbrev pub first_three : List (List ℕ) → List (List ℕ)
first_three texts = text_at 0 texts ∷ text_at 1 texts ∷ text_at 2 texts ∷ []
