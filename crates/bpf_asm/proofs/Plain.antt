-- Texts without blanks, commas and the like, and lines that are made of them.
use Rattle.std.proofs.Common.{arith, ◌≡◌, ℕ, ◌-◌, ◌<◌, ◌≤◌, Bool, true, false, not, ◌&&◌, ◌==◌, nat_lt, if◌then◌else◌}
use Rattle.std.proofs.Common.{List, [], ◌∷◌, ◌++◌, map, length, get_or, take, drop, All, sym, refl, ap, ap₂, ◌∙◌}
use Rattle.std.specs.List.{list_all, prefix_len, suffix_len, position_or_len, slice_split}
use Rattle.std.proofs.Math.Seq.{take-length, take-append_seam, drop-append_seam}
use Rattle.std.proofs.lemmas.Bool.{false≢true, cond-true, cond-false}
use Rattle.std.proofs.lemmas.Bool.Decides.{nat_tests}
use Rattle.std.proofs.lemmas.List.{append-nil}
use Rattle.std.proofs.lemmas.List.Folds.{list_all-append}
use Rattle.std.proofs.lemmas.List.Sums.{suffix_len-take_no}
use Rattle.std.proofs.lemmas.List.Elements.{All-nil, All-cons}
use Rattle.std.proofs.lemmas.List.Splits.{slice_split_at, slice_split_none}
use Rattle.std.specs.Str.Lines.{strip_carriage_return}
use Rattle.std.specs.Prelude.{slice_index}
use Rattle.bpf_asm.specs.Cutting.{is_blank, trim, trim_end, said_in, word_of, rest_of, is_empty, operand_texts}

both_left : (x y : Bool) → (x && y) ≡ true → x ≡ true
both_left true y h = refl
both_left false y h = absurd (false≢true h)

both_right : (x y : Bool) → (x && y) ≡ true → y ≡ true
both_right true y h = h
both_right false y h = absurd (false≢true h)

-- neither white space nor what cuts a line
abbrev pub is_plain : ℕ → Bool
is_plain b = nat_lt 32 b && (not (b == 44) && not (b == 59))

-- one byte at least, and plain ones alone
abbrev pub is_solid : List ℕ → Bool
is_solid text = nat_lt 0 (length text) && list_all is_plain text

abbrev pub AllSolid : List (List ℕ) → Type 0
AllSolid [] = Unit {0}
AllSolid (t ∷ ts) = (is_solid t ≡ true) × AllSolid ts

not_blank : (b : ℕ) → is_plain b ≡ true → is_blank b ≡ false
not_blank b plain = grind (arith, nat_tests)

not_comma : (b : ℕ) → is_plain b ≡ true → (b == 44) ≡ false
not_comma b plain = grind (arith, nat_tests)

not_comment : (b : ℕ) → is_plain b ≡ true → not (b == 59) ≡ true
not_comment b plain = both_right (not (b == 44)) (not (b == 59)) (both_right (nat_lt 32 b) (not (b == 44) && not (b == 59)) plain)

-- ---- where the first of a kind stands

pub none_found : (test : ℕ → Bool) (xs : List ℕ) → list_all (λ b. not (test b)) xs ≡ true → position_or_len test xs ≡ length xs
none_found test [] all = refl
none_found test (x ∷ xs) all =
    cond-true _ _ _ (both_left (not (test x)) (list_all (λ b. not (test b)) xs) all)
    ∙ (let n = none_found test xs (both_right (not (test x)) (list_all (λ b. not (test b)) xs) all) in omega (arith, n))

pub first_found : (test : ℕ → Bool) (xs : List ℕ) (y : ℕ) (ys : List ℕ) → list_all (λ b. not (test b)) xs ≡ true
    → test y ≡ true → position_or_len test (xs ++ y ∷ ys) ≡ length xs
first_found test [] y ys all here = cond-false _ _ _ (ap not here)
first_found test (x ∷ xs) y ys all here =
    cond-true _ _ _ (both_left (not (test x)) (list_all (λ b. not (test b)) xs) all)
    ∙ (let n = first_found test xs y ys (both_right (not (test x)) (list_all (λ b. not (test b)) xs) all) here in omega (arith, n))

all_weaker : (p q : ℕ → Bool) → ((b : ℕ) → p b ≡ true → q b ≡ true) → (xs : List ℕ) → list_all p xs ≡ true → list_all q xs ≡ true
all_weaker p q weaker [] all = refl
all_weaker p q weaker (x ∷ xs) all = ap₂ (λ (a b : Bool). a && b) (weaker x (both_left (p x) (list_all p xs) all)) (all_weaker p q weaker xs (both_right (p x) (list_all p xs) all))

-- ---- trimmed texts

abbrev last_or : ℕ → List ℕ → ℕ
last_or d [] = d
last_or d (x ∷ xs) = last_or x xs

last_is : (d x : ℕ) (xs : List ℕ) → get_or (x ∷ xs) (length xs) d ≡ last_or x xs
last_is d x [] = refl
last_is d x (y ∷ ys) = last_is d y ys

last-append : (d : ℕ) (xs : List ℕ) (y : ℕ) (ys : List ℕ) → last_or d (xs ++ y ∷ ys) ≡ last_or y ys
last-append d [] y ys = refl
last-append d (x ∷ xs) y ys = last-append x xs y ys

plain_last : (x : ℕ) (xs : List ℕ) → list_all is_plain (x ∷ xs) ≡ true → is_plain (last_or x xs) ≡ true
plain_last x [] all = both_left (is_plain x) true all
plain_last x (y ∷ ys) all = plain_last y ys (both_right (is_plain x) (list_all is_plain (y ∷ ys)) all)

one_less : (x : ℕ) (xs : List ℕ) → length (x ∷ xs) - 1 ≡ length xs
one_less x xs = omega arith

-- a text that neither begins nor ends with a blank
trim_end_fixed : (x : ℕ) (xs : List ℕ) → is_blank (last_or x xs) ≡ false → trim_end (x ∷ xs) ≡ x ∷ xs
trim_end_fixed x xs last =
    let t : List ℕ = x ∷ xs in
    let at_end : is_blank (get_or t (length t - 1) 0) ≡ false = ap is_blank (ap (λ (k : ℕ). get_or t k 0) (one_less x xs) ∙ last_is 0 x xs) ∙ last in
    let some : 0 < length t = omega arith in
    let whole : length t ≤ length t = omega arith in
    let none : suffix_len is_blank (take (length t) t) ≡ 0 = suffix_len-take_no is_blank t (length t) 0 some whole at_end in
    let zero : suffix_len is_blank t ≡ 0 = ap (suffix_len is_blank) (sym (take-length t)) ∙ none in
    let all : length t - suffix_len is_blank t ≡ length t = omega (arith, zero) in
    ap (λ (k : ℕ). take k t) all ∙ take-length t

pub trim_fixed : (x : ℕ) (xs : List ℕ) → is_blank x ≡ false → is_blank (last_or x xs) ≡ false → trim (x ∷ xs) ≡ x ∷ xs
unfolding trim
trim_fixed x xs first last = ap trim_end (ap (λ (k : ℕ). drop k (x ∷ xs)) (cond-false _ _ _ first)) ∙ trim_end_fixed x xs last

-- the same behind a space
pub trim_indented : (x : ℕ) (xs : List ℕ) → is_blank x ≡ false → is_blank (last_or x xs) ≡ false → trim (32 ∷ x ∷ xs) ≡ x ∷ xs
unfolding trim
trim_indented x xs first last =
    let zero : prefix_len is_blank (x ∷ xs) ≡ 0 = cond-false _ _ _ first in
    let one : prefix_len is_blank (32 ∷ x ∷ xs) ≡ 1 = omega (arith, zero) in
    ap trim_end (ap (λ (k : ℕ). drop k (32 ∷ x ∷ xs)) one) ∙ trim_end_fixed x xs last

-- ---- a line of solid texts

-- the texts behind the first one
abbrev pub more_text : List (List ℕ) → List ℕ
more_text [] = []
more_text (t ∷ ts) = 44 ∷ 32 ∷ (t ++ more_text ts)

-- the operands behind a mnemonic
abbrev pub tail_text : List (List ℕ) → List ℕ
tail_text [] = []
tail_text (t ∷ ts) = 32 ∷ (t ++ more_text ts)

solid_all : (t : List ℕ) → is_solid t ≡ true → list_all is_plain t ≡ true
solid_all t solid = both_right (nat_lt 0 (length t)) (list_all is_plain t) solid

both : (x y : Bool) → x ≡ true → y ≡ true → (x && y) ≡ true
both x y a b = ap₂ (λ (p q : Bool). p && q) a b

-- what holds of plain bytes, spaces and commas
module _ (test : ℕ → Bool) (plain : (b : ℕ) → is_plain b ≡ true → test b ≡ true) (space : test 32 ≡ true) (comma : test 44 ≡ true) where
  all_solid : (t : List ℕ) → is_solid t ≡ true → list_all test t ≡ true
  all_solid t solid = all_weaker is_plain test plain t (solid_all t solid)

  all-append : (xs ys : List ℕ) → list_all test xs ≡ true → list_all test ys ≡ true → list_all test (xs ++ ys) ≡ true
  all-append xs ys a b = list_all-append test xs ys ∙ both (list_all test xs) (list_all test ys) a b

  all_more : (ts : List (List ℕ)) → AllSolid ts → list_all test (more_text ts) ≡ true
  all_more [] solid = refl
  all_more (t ∷ ts) solid = both (test 44) (list_all test (32 ∷ (t ++ more_text ts))) comma (both (test 32) (list_all
      test (t ++ more_text ts)) space (all-append t (more_text ts) (all_solid t solid.0) (all_more ts solid.1)))

  all_tail : (ts : List (List ℕ)) → AllSolid ts → list_all test (tail_text ts) ≡ true
  all_tail [] solid = refl
  all_tail (t ∷ ts) solid = both (test 32) (list_all test (t ++ more_text ts)) space (all-append t (more_text ts) (all_solid t solid.0) (all_more ts solid.1))

  pub all_line : (name : List ℕ) (ts : List (List ℕ)) → is_solid name ≡ true → AllSolid ts → list_all test (name ++ tail_text ts) ≡ true
  all_line name ts solid others = all-append name (tail_text ts) (all_solid name solid) (all_tail ts others)

-- it ends with no blank
last_of_two : (x : ℕ) (xs ys : List ℕ) → is_plain (last_or x xs) ≡ true
    → ((y : ℕ) (more : List ℕ) → ys ≡ y ∷ more → is_plain (last_or y more) ≡ true)
    → is_plain (last_or x (xs ++ ys)) ≡ true
last_of_two x xs [] a b = ap (λ (l : List ℕ). is_plain (last_or x l)) (append-nil xs) ∙ a
last_of_two x xs (y ∷ ys) a b = ap is_plain (last-append x xs y ys) ∙ b y ys refl

ends_solid : (x : ℕ) (xs : List ℕ) (ts : List (List ℕ)) → list_all is_plain (x ∷ xs) ≡ true → AllSolid ts
    → is_plain (last_or x (xs ++ more_text ts)) ≡ true
ends_solid x xs [] plain solid = ap (λ (l : List ℕ). is_plain (last_or x l)) (append-nil xs) ∙ plain_last x xs plain
ends_solid x xs ([] ∷ ts) plain solid = absurd (false≢true solid.0)
ends_solid x xs ((y ∷ ys) ∷ ts) plain solid =
    ap is_plain (last-append x xs 44 (32 ∷ y ∷ (ys ++ more_text ts))) ∙ ends_solid y ys ts (solid_all (y ∷ ys) solid.0) solid.1

ends_line : (x : ℕ) (xs : List ℕ) (ts : List (List ℕ)) → list_all is_plain (x ∷ xs) ≡ true → AllSolid ts
    → is_plain (last_or x (xs ++ tail_text ts)) ≡ true
ends_line x xs [] plain solid = ap (λ (l : List ℕ). is_plain (last_or x l)) (append-nil xs) ∙ plain_last x xs plain
ends_line x xs ([] ∷ ts) plain solid = absurd (false≢true solid.0)
ends_line x xs ((y ∷ ys) ∷ ts) plain solid =
    ap is_plain (last-append x xs 32 (y ∷ (ys ++ more_text ts))) ∙ ends_solid y ys ts (solid_all (y ∷ ys) solid.0) solid.1

-- ---- what is read of such a line

pub said_in_line : (x : ℕ) (xs : List ℕ) (ts : List (List ℕ)) → is_solid (x ∷ xs) ≡ true → AllSolid ts
    → said_in ((x ∷ xs) ++ tail_text ts) ≡ (x ∷ xs) ++ tail_text ts
said_in_line x xs ts name solid =
    let line : List ℕ = (x ∷ xs) ++ tail_text ts in
    let plain = solid_all (x ∷ xs) name in
    let no_comment = none_found (λ b. b == 59) line (all_line (λ b. not (b == 59)) not_comment refl refl (x ∷ xs) ts name solid) in
    ap trim (ap (λ (k : ℕ). take k line) no_comment ∙ take-length line)
    ∙ trim_fixed x (xs ++ tail_text ts) (not_blank x (both_left (is_plain x) (list_all is_plain xs) plain)) (not_blank (last_or x (xs ++ tail_text ts)) (ends_line x xs ts plain solid))

not_blanks : (t : List ℕ) → list_all is_plain t ≡ true → list_all (λ b. not (is_blank b)) t ≡ true
not_blanks t plain = all_weaker is_plain (λ b. not (is_blank b)) (λ b p. ap not (not_blank b p)) t plain

word_end : (name : List ℕ) (ts : List (List ℕ)) → list_all is_plain name ≡ true → position_or_len is_blank (name ++ tail_text ts) ≡ length name
word_end name [] plain = ap (position_or_len is_blank) (append-nil name) ∙ none_found is_blank name (not_blanks name plain)
word_end name (t ∷ ts) plain = first_found is_blank name 32 (t ++ more_text ts) (not_blanks name plain) refl

pub word_of_line : (name : List ℕ) (ts : List (List ℕ)) → is_solid name ≡ true → word_of (name ++ tail_text ts) ≡ name
word_of_line name ts solid = ap (λ (k : ℕ). take k (name ++ tail_text ts)) (word_end name ts (solid_all name solid)) ∙ take-append_seam name (tail_text ts)

pub rest_of_line : (name : List ℕ) (ts : List (List ℕ)) → is_solid name ≡ true → rest_of (name ++ tail_text ts) ≡ tail_text ts
rest_of_line name ts solid = ap (λ (k : ℕ). drop k (name ++ tail_text ts)) (word_end name ts (solid_all name solid)) ∙ drop-append_seam name (tail_text ts)

-- ---- operands

no_commas : (t : List ℕ) → list_all is_plain t ≡ true → All (λ b. (b == 44) ≡ false) t
no_commas [] plain = All-nil (λ b. (b == 44) ≡ false)
no_commas (x ∷ xs) plain = All-cons (λ b. (b == 44) ≡ false) x xs (not_comma x (both_left (is_plain x) (list_all
    is_plain xs) plain)) (no_commas xs (both_right (is_plain x) (list_all is_plain xs) plain))

split_line : (t : List ℕ) (ts : List (List ℕ)) → is_solid t ≡ true → AllSolid ts
    → slice_split (λ b. b == 44) (32 ∷ (t ++ more_text ts)) ≡ (32 ∷ t) ∷ map (λ u. 32 ∷ u) ts
split_line t [] solid others =
    ap (λ (l : List ℕ). slice_split (λ b. b == 44) (32 ∷ l)) (append-nil t)
    ∙ slice_split_none (λ b. b == 44) (32 ∷ t) (All-cons (λ b. (b == 44) ≡ false) 32 t refl (no_commas t (solid_all t solid)))
split_line t (u ∷ us) solid others =
    slice_split_at (λ b. b == 44) (32 ∷ t) 44 (32 ∷ (u ++ more_text us)) (All-cons (λ b. (b == 44) ≡ false) 32 t refl (no_commas t (solid_all t solid))) refl
    ∙ ap (λ (ps : List (List ℕ)). (32 ∷ t) ∷ ps) (split_line u us others.0 others.1)

trim_solid : (t : List ℕ) → is_solid t ≡ true → trim (32 ∷ t) ≡ t
trim_solid [] solid = absurd (false≢true solid)
trim_solid (x ∷ xs) solid =
    let plain = solid_all (x ∷ xs) solid in
    trim_indented x xs (not_blank x (both_left (is_plain x) (list_all is_plain xs) plain)) (not_blank (last_or x xs) (plain_last x xs plain))

trim_all : (ts : List (List ℕ)) → AllSolid ts → map trim (map (λ u. 32 ∷ u) ts) ≡ ts
trim_all [] solid = refl
trim_all (t ∷ ts) solid = ap₂ (λ (x : List ℕ) (xs : List (List ℕ)). x ∷ xs) (trim_solid t solid.0) (trim_all ts solid.1)

pub not_empty : (x : ℕ) (xs : List ℕ) → is_empty (x ∷ xs) ≡ false
not_empty x xs = grind (arith, nat_tests)

some_rest : (t : List ℕ) (ts : List (List ℕ)) → is_solid t ≡ true → AllSolid ts → is_empty (trim (32 ∷ (t ++ more_text ts))) ≡ false
some_rest [] ts solid others = absurd (false≢true solid)
some_rest (x ∷ xs) ts solid others =
    let plain = solid_all (x ∷ xs) solid in
    ap is_empty (trim_indented x (xs ++ more_text ts) (not_blank x (both_left (is_plain x) (list_all is_plain xs)
    plain)) (not_blank (last_or x (xs ++ more_text ts)) (ends_solid x xs ts plain others)))
    ∙ not_empty x (xs ++ more_text ts)

no_operands : operand_texts [] ≡ []
unfolding trim
no_operands = refl

pub operands_of_line : (ts : List (List ℕ)) → AllSolid ts → operand_texts (tail_text ts) ≡ ts
operands_of_line [] solid = no_operands
operands_of_line (t ∷ ts) solid =
    ap (λ (b : Bool). if b then [] else map trim (slice_split (λ b. b == 44) (32 ∷ (t ++ more_text ts)))) (some_rest t ts solid.0 solid.1)
    ∙ ap (map trim) (split_line t ts solid.0 solid.1)
    ∙ trim_all (t ∷ ts) solid

-- ---- lines in a text

not_newline : (b : ℕ) → is_plain b ≡ true → not (b == 10) ≡ true
not_newline b plain = ap not (let n : (b == 10) ≡ false = grind (arith, nat_tests) in n)

not_true : (b : Bool) → not b ≡ true → b ≡ false
not_true true h = absurd (false≢true h)
not_true false h = refl

All-from_test : (test : ℕ → Bool) (xs : List ℕ) → list_all (λ b. not (test b)) xs ≡ true → All (λ b. test b ≡ false) xs
All-from_test test [] all = All-nil (λ b. test b ≡ false)
All-from_test test (x ∷ xs) all =
    All-cons (λ b. test b ≡ false) x xs (not_true (test x) (both_left (not (test x)) (list_all (λ b. not (test b)) xs)
    all)) (All-from_test test xs (both_right (not (test x)) (list_all (λ b. not (test b)) xs) all))

pub no_newline : (name : List ℕ) (ts : List (List ℕ)) → is_solid name ≡ true → AllSolid ts → All (λ b. (b == 10) ≡ false) (name ++ tail_text ts)
no_newline name ts solid others = All-from_test (λ b. b == 10) (name ++ tail_text ts) (all_line (λ b. not (b == 10)) not_newline refl refl name ts solid others)

not_return : (b : ℕ) → is_plain b ≡ true → (b == 13) ≡ false
not_return b plain = grind (arith, nat_tests)

pub line_stays : (name : List ℕ) (ts : List (List ℕ)) → is_solid name ≡ true → AllSolid ts
    → strip_carriage_return (name ++ tail_text ts) ≡ name ++ tail_text ts
line_stays [] ts solid others = absurd (false≢true solid)
line_stays (x ∷ xs) ts solid others =
    let line : List ℕ = (x ∷ xs) ++ tail_text ts in
    let last : (slice_index line (length line - 1) == 13) ≡ false = ap (λ (b : ℕ). b == 13)
    (ap (λ (k : ℕ). slice_index line k) (one_less x (xs ++ tail_text ts)) ∙ last_is 0 x (xs ++ tail_text ts))
    ∙ not_return (last_or x (xs ++ tail_text ts)) (ends_line x xs ts (solid_all (x ∷ xs) solid) others) in
    ap (λ (b : Bool). if b then take (length line - 1) line else line) last
