-- A text cut into its words.
use Rattle.std.specs.Prelude.{◌≡◌, slice_index_or, ℕ, Bool, not, ◌==◌, List, [], length, filter}
use Rattle.std.specs.List.{slice_split}
use Rattle.bpf_asm.specs.Cutting.{is_blank}
use Rattle.scripts.specs.declared.words.Words.{Words}

abbrev pub is_some_word : List ℕ → Bool
is_some_word word = not (length word == 0)

-- what stands between spaces and tabs
unfoldable pub words_of : List ℕ → List (List ℕ)
words_of text = filter is_some_word (slice_split is_blank text)

-- the word at this place, empty past the last
abbrev pub word_at : ℕ → List (List ℕ) → List ℕ
word_at k words = slice_index_or words k []

-- the first four of these words, and their count
abbrev pub AreWords : List (List ℕ) → Words → Type 0
AreWords words w =
    (w.first.now ≡ word_at 0 words) × (w.second.now ≡ word_at 1 words) × (w.third.now ≡ word_at 2 words)
    × (w.fourth.now ≡ word_at 3 words) × (w.count ≡ length words)
