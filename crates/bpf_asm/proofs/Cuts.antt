-- Where texts are cut.
use Rattle.std.proofs.Common.{◌≡◌, ◌≢◌, ℕ, ◌<◌, Bool, true, false, List, [], ◌∷◌, ◌++◌, map, length, get_or, take, sym, refl, ap, ◌∙◌, arith}
use Rattle.std.specs.Prelude.{◌==◌, slice_set, slice_index_or}
use Rattle.std.specs.List.{before_first, position_or_len}
use Rattle.std.proofs.lemmas.Bool.{eq-eqb, ne_eqb}
use Rattle.std.proofs.lemmas.List.Sums.{position_or_len_is}
use Rattle.std.proofs.Math.Seq.{take-length}
use Rattle.std.proofs.lemmas.List.{map-set, map-append, length-map}
use Rattle.std.proofs.Math.ListN.{get_or-map}
use Rattle.std.specs.Borrow.{Bor}
use Rattle.bpf_asm.specs.Cutting.{trim, first_three}

take-whole : (xs : List ℕ) → take (length xs) xs ≡ xs
take-whole xs = take-length xs

pub before_at : (byte : ℕ) (text : List ℕ) (i : ℕ) → i < length text → get_or text i 0 ≡ byte
    → ((k : ℕ) → k < i → get_or text k 0 ≢ byte) → take i text ≡ before_first (λ b. b == byte) text
before_at byte text i inside here before =
    sym (ap (λ (n : ℕ). take n text) (position_or_len_is (λ b. b == byte) text i 0 (omega (arith, inside)) (λ k below. ne_eqb _ _ (before k below)) (λ lt. eq-eqb _ _ here)))

pub before_none : (byte : ℕ) (text : List ℕ) → ((k : ℕ) → k < length text → get_or text k 0 ≢ byte) → text ≡ before_first (λ b. b == byte) text
before_none byte text none =
    sym (ap (λ (n : ℕ). take n text) (position_or_len_is (λ b. b == byte) text (length text) 0 (omega arith) (λ k below.
    ne_eqb _ _ (none k below)) (λ lt. absurd (omega (arith, lt)))) ∙ take-whole text)

pub first_at : (test : ℕ → Bool) (text : List ℕ) (i : ℕ) → i < length text → test (get_or text i 0) ≡ true
    → ((k : ℕ) → k < i → test (get_or text k 0) ≡ false) → position_or_len test text ≡ i
first_at test text i inside here before = position_or_len_is test text i 0 (omega (arith, inside)) before (λ lt. here)

pub first_none : (test : ℕ → Bool) (text : List ℕ) → ((k : ℕ) → k < length text → test (get_or text k 0) ≡ false)
    → position_or_len test text ≡ length text
first_none test text none = position_or_len_is test text (length text) 0 (omega arith) none (λ lt. absurd (omega (arith, lt)))

-- ---- operands

pub three_more : (texts : List (List ℕ)) (text : List ℕ) → length texts < 3
    → slice_set (first_three texts) (length texts) text ≡ first_three (texts ++ text ∷ [])
three_more [] text few = refl
three_more (a ∷ []) text few = refl
three_more (a ∷ b ∷ []) text few = refl
three_more (a ∷ b ∷ d ∷ more) text few = absurd (omega (arith, few))

-- one operand more
pub put_more : (texts : List (Bor (List ℕ))) (count : ℕ) (parts : List (Bor (List ℕ))) (part trimmed : Bor (List ℕ))
    → count ≡ length parts → count < 3 → trimmed.now ≡ trim part.now
    → map (λ t. t.now) texts ≡ first_three (map trim (map (λ t. t.now) parts)) → map (λ t. t.now) (slice_set texts count
    trimmed) ≡ first_three (map trim (map (λ t. t.now) (parts ++ part ∷ [])))
put_more texts count parts part trimmed at few is same =
    let now : Bor (List ℕ) → List ℕ = λ t. t.now in
    let before = map trim (map now parts) in
    let n : length before ≡ count = length-map (map now parts) trim ∙ length-map parts now ∙ sym at in
    map-set now texts count trimmed
    ∙ ap (λ (ts : List (List ℕ)). slice_set ts count trimmed.now) same
    ∙ ap (λ (k : ℕ). slice_set (first_three before) k trimmed.now) (sym n)
    ∙ ap (slice_set (first_three before) (length before)) is
    ∙ three_more before (trim part.now) (omega (arith, n, few))
    ∙ ap first_three (sym (ap (map trim) (map-append now parts (part ∷ [])) ∙ map-append trim (map now parts) (part.now ∷ [])))

-- one of three texts
pub each_text : (texts : List (Bor (List ℕ))) (none : Bor (List ℕ)) (operands : List (List ℕ)) → none.now ≡ []
    → map (λ t. t.now) texts ≡ first_three operands
    → (k : ℕ) → (slice_index_or texts k none).now ≡ slice_index_or (first_three operands) k []
each_text texts none operands blank same k =
    sym (get_or-map (λ t. t.now) texts k none) ∙ ap (λ (d : List ℕ). get_or (map (λ t. t.now) texts) k d) blank ∙ ap (λ (ts : List (List ℕ)). get_or ts k []) same
