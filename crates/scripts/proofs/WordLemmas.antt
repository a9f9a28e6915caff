-- How a text's words go on.
use Rattle.std.proofs.Common.{◌≡◌, ℕ, suc, zero, ◌+◌, ◌-◌, ◌<◌, ◌≤◌, Bool, true, false, List, [], ◌∷◌, ◌++◌, length}
use Rattle.std.proofs.Common.{take, drop, get_or, refl, sym, ap, ap₂, ◌∙◌, arith, rules, inl, inr, add-one}
use Rattle.std.proofs.Common.{append_assoc, Ok, Err}
use Rattle.std.specs.Prelude.{Result, slice_set, filter, not, if◌then◌else◌, cond}
use Rattle.std.specs.List.{slice_split, position_or_len, before_first, after_first, All}
use Rattle.std.proofs.lemmas.Bool.{cases_lt}
use Rattle.std.proofs.Math.Seq.{take-length, drop-length, drop-cons}
use Rattle.std.proofs.lemmas.List.Splits.{slice_split-cons_yes, slice_split_first, slice_split_none}
use Rattle.std.proofs.lemmas.List.Sums.{passes_at_first, fails_before_first, prefix_len-le-length}
use Rattle.std.proofs.lemmas.List.{length-drop, append-nil}
use Rattle.std.proofs.lemmas.List.Elements.{All-from_get_or}
use Rattle.bpf_asm.specs.Cutting.{is_blank, word_of, rest_of}
use Rattle.scripts.specs.Words.{words_of, is_some_word, word_at}
use Rattle.scripts.specs.Numbers.{and_then, decimal_said, numbers_said}
use Rattle.scripts.specs.declared.fault.ScriptFault.{ScriptFault}

pub no_words : words_of [] ≡ []
unfolding words_of
no_words = refl

blank_first : (b : ℕ) (text : List ℕ) → is_blank b ≡ true → words_of (b ∷ text) ≡ words_of text
unfolding words_of
blank_first b text h = ap (filter is_some_word) (slice_split-cons_yes is_blank b text h)

-- blanks in front say nothing
pub skip : (n : ℕ) (text : List ℕ) → n ≤ length text → ((k : ℕ) → k < n → is_blank (get_or text k 0) ≡ true) → words_of text ≡ words_of (drop n text)
skip zero text few blanks = refl
skip (suc n) [] few blanks = absurd (omega (arith, few))
skip (suc n) (b ∷ text) few blanks = blank_first b text (blanks 0 (omega arith)) ∙ skip n text (omega (arith, few)) (λ k lt. blanks (suc k) (omega (arith, lt)))

pub all_blank : (text : List ℕ) → ((k : ℕ) → k < length text → is_blank (get_or text k 0) ≡ true) → words_of text ≡ []
all_blank text blanks = skip (length text) text (omega arith) blanks ∙ ap words_of (drop-length text) ∙ no_words

-- a word is no blank text
some_word : (x : ℕ) (xs : List ℕ) → is_some_word (x ∷ xs) ≡ true
some_word x xs = search rules

one_word : (x : ℕ) (xs : List ℕ) (parts : List (List ℕ)) → filter is_some_word ((x ∷ xs) ∷ parts) ≡ (x ∷ xs) ∷ filter is_some_word parts
one_word x xs parts = ap (λ (b : Bool). if b then (x ∷ xs) ∷ filter is_some_word parts else filter is_some_word parts) (some_word x xs)

one_more : (n : ℕ) → 1 + n ≡ suc n
one_more n = omega arith

-- the text before the first blank, which isn't its first byte
front : (x : ℕ) (xs : List ℕ) → is_blank x ≡ false → before_first is_blank (x ∷ xs) ≡ x ∷ before_first is_blank xs
front x xs solid = ap (λ (n : ℕ). take n (x ∷ xs)) (ap (λ (b : Bool). cond (not b) (1 + position_or_len is_blank xs) 0) solid ∙ one_more (position_or_len is_blank xs))

each_solid : (text : List ℕ) → ((k : ℕ) → k < length text → is_blank (get_or text k 0) ≡ false) → All (λ b. is_blank b ≡ false) text
each_solid text each = All-from_get_or (λ b. is_blank b ≡ false) text 0 each

-- a word that ends at a blank
ends : (x : ℕ) (xs : List ℕ) → is_blank x ≡ false → position_or_len is_blank (x ∷ xs) < length (x ∷ xs)
    → words_of (x ∷ xs) ≡ word_of (x ∷ xs) ∷ words_of (after_first is_blank (x ∷ xs))
unfolding words_of
ends x xs solid inside =
    ap (filter is_some_word) (slice_split_first is_blank (x ∷ xs) 0 inside ∙ ap (λ (w : List ℕ). w ∷ slice_split is_blank (after_first is_blank (x ∷ xs))) (front x xs solid))
    ∙ one_word x (before_first is_blank xs) (slice_split is_blank (after_first is_blank (x ∷ xs)))
    ∙ ap (λ (w : List ℕ). w ∷ filter is_some_word (slice_split is_blank (after_first is_blank (x ∷ xs)))) (sym (front x xs solid))

-- what follows the word begins with that blank
behind : (text : List ℕ) → position_or_len is_blank text < length text → words_of (rest_of text) ≡ words_of (after_first is_blank text)
behind text inside =
    let n = position_or_len is_blank text in
    ap words_of (drop-cons text n 0 inside ∙ ap (λ (k : ℕ). get_or text n 0 ∷ drop k text) (sym (add-one n)))
    ∙ blank_first (get_or text n 0) (after_first is_blank text) (passes_at_first is_blank text 0 inside)

-- a word that ends with the text
alone : (x : ℕ) (xs : List ℕ) → is_blank x ≡ false → length (x ∷ xs) ≤ position_or_len is_blank (x ∷ xs)
    → words_of (x ∷ xs) ≡ word_of (x ∷ xs) ∷ words_of (rest_of (x ∷ xs))
unfolding words_of
alone x xs solid whole =
    let text = x ∷ xs in
    let n : position_or_len is_blank text ≡ length text = omega (arith, whole, prefix_len-le-length (λ (b : ℕ). not (is_blank b)) text) in
    let solid_all : All (λ b. is_blank b ≡ false) text = each_solid text (λ k lt. fails_before_first is_blank text k 0 (omega (arith, n, lt))) in
    ap (filter is_some_word) (slice_split_none is_blank text solid_all)
    ∙ one_word x xs []
    ∙ ap₂ (λ (w r : List ℕ). w ∷ filter is_some_word (slice_split is_blank r)) (sym (ap (λ (k : ℕ). take k text) n ∙
    take-length text)) (sym (ap (λ (k : ℕ). drop k text) n ∙ drop-length text))

first_solid : (x : ℕ) (xs : List ℕ) → is_blank x ≡ false → words_of (x ∷ xs) ≡ word_of (x ∷ xs) ∷ words_of (rest_of (x ∷ xs))
first_solid x xs solid =
    elim (cases_lt (position_or_len is_blank (x ∷ xs)) (length (x ∷ xs))) [
      | inl inside ↦ ends x xs solid inside ∙ ap (λ (ws : List (List ℕ)). word_of (x ∷ xs) ∷ ws) (sym (behind (x ∷ xs) inside))
      | inr whole ↦ alone x xs solid whole
    ]

-- all that follows this place
pub whole_rest : (text : List ℕ) (start : ℕ) → take (length text - start) (drop start text) ≡ drop start text
whole_rest text start = ap (λ (n : ℕ). take n (drop start text)) (sym (length-drop start text)) ∙ take-length (drop start text)

-- the first word begins at the first byte that is no blank
pub word_first : (text : List ℕ) (start : ℕ) → start < length text → is_blank (get_or text start 0) ≡ false
    → ((k : ℕ) → k < start → is_blank (get_or text k 0) ≡ true)
    → words_of text ≡ word_of (drop start text) ∷ words_of (rest_of (drop start text))
word_first text start inside solid blanks =
    let opened = drop-cons text start 0 inside in
    skip start text (omega (arith, inside)) blanks ∙ ap words_of opened ∙ first_solid (get_or text start 0) (drop (suc start) text) solid
    ∙ sym (ap (λ (t : List ℕ). word_of t ∷ words_of (rest_of t)) opened)

-- and what follows it is shorter
pub rest_shorter : (text : List ℕ) (start : ℕ) → start < length text → is_blank (get_or text start 0) ≡ false
    → length (rest_of (drop start text)) < length text
rest_shorter text start inside solid =
    let opened = drop-cons text start 0 inside in
    let xs = drop (suc start) text in
    let some : position_or_len is_blank (drop start text) ≡ 1 + position_or_len is_blank xs =
    ap (position_or_len is_blank) opened ∙ ap (λ (b : Bool). cond (not b) (1 + position_or_len is_blank xs) 0) solid in
    omega (arith, some, length-drop start text, length-drop (position_or_len is_blank (drop start text)) (drop start text))

-- ---- all words of a text

abbrev pub first_four : List (List ℕ) → List (List ℕ)
first_four words = word_at 0 words ∷ word_at 1 words ∷ word_at 2 words ∷ word_at 3 words ∷ []

pub four_more : (words : List (List ℕ)) (word : List ℕ) → length words < 4
    → slice_set (first_four words) (length words) word ≡ first_four (words ++ word ∷ [])
four_more [] word few = refl
four_more (a ∷ []) word few = refl
four_more (a ∷ b ∷ []) word few = refl
four_more (a ∷ b ∷ d ∷ []) word few = refl
four_more (a ∷ b ∷ d ∷ e ∷ more) word few = absurd (omega (arith, few))

pub no_more : (words : List (List ℕ)) (word : List ℕ) → 4 ≤ length words → first_four words ≡ first_four (words ++ word ∷ [])
no_more [] word many = absurd (omega (arith, many))
no_more (a ∷ []) word many = absurd (omega (arith, many))
no_more (a ∷ b ∷ []) word many = absurd (omega (arith, many))
no_more (a ∷ b ∷ d ∷ []) word many = absurd (omega (arith, many))
no_more (a ∷ b ∷ d ∷ e ∷ more) word many = refl

-- ---- numbers

-- the numbers so far, and then those that are said
abbrev pub behind_numbers : List ℕ → Result (List ℕ) ScriptFault → Result (List ℕ) ScriptFault
behind_numbers before (Ok numbers) = Ok (before ++ numbers)
behind_numbers before (Err fault) = Err fault

regroup : (before : List ℕ) (n : ℕ) (said : Result (List ℕ) ScriptFault)
    → behind_numbers before (and_then said (λ ns. Ok (n ∷ ns))) ≡ behind_numbers (before ++ n ∷ []) said
regroup before n (Ok numbers) = ap (λ (ns : List ℕ). Ok ns) (sym (append_assoc before (n ∷ []) numbers))
regroup before n (Err fault) = refl

pub number_more : (before : List ℕ) (words : List (List ℕ)) (word : List ℕ) (after : List (List ℕ)) (n : ℕ) (total : Result (List ℕ) ScriptFault)
    → words ≡ word ∷ after → decimal_said word ≡ Ok n
    → total ≡ behind_numbers before (numbers_said words) → total ≡ behind_numbers (before ++ n ∷ []) (numbers_said after)
number_more before words word after n total is said so_far =
    so_far ∙ ap (λ (ws : List (List ℕ)). behind_numbers before (numbers_said ws)) is
    ∙ ap (λ (r : Result ℕ ScriptFault). behind_numbers before (and_then r (λ m. and_then (numbers_said after) (λ ns. Ok (m ∷ ns))))) said
    ∙ regroup before n (numbers_said after)

pub number_bad : (before : List ℕ) (words : List (List ℕ)) (word : List ℕ) (after : List (List ℕ)) (fault : ScriptFault) (total : Result (List ℕ) ScriptFault)
    → words ≡ word ∷ after → decimal_said word ≡ Err fault
    → total ≡ behind_numbers before (numbers_said words) → total ≡ Err fault
number_bad before words word after fault total is said so_far =
    so_far ∙ ap (λ (ws : List (List ℕ)). behind_numbers before (numbers_said ws)) is
    ∙ ap (λ (r : Result ℕ ScriptFault). behind_numbers before (and_then r (λ m. and_then (numbers_said after) (λ ns. Ok (m ∷ ns))))) said

pub number_end : (before : List ℕ) (words : List (List ℕ)) (total : Result (List ℕ) ScriptFault) → words ≡ []
    → total ≡ behind_numbers before (numbers_said words) → total ≡ Ok before
number_end before words total none so_far = so_far ∙ ap (λ (ws : List (List ℕ)). behind_numbers before (numbers_said ws)) none ∙ ap (λ (ns : List ℕ). Ok ns) (append-nil before)
