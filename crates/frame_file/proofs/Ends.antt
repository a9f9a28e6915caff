-- What may be torn.
use Rattle.std.proofs.Common.{
  ◌≡◌,
  ◌⊎◌,
  inl,
  inr,
  ⊎_elim,
  ℕ,
  zero,
  suc,
  ◌+◌,
  ◌-◌,
  ◌<◌,
  ◌≤◌,
  ◌^◌,
  List,
  [],
  ◌∷◌,
  length,
  take,
  drop,
  replicate,
  refl,
  sym,
  ◌∙◌,
  ap,
  subst,
  arith,
  length-drop,
}
use Rattle.std.specs.Int.{w64, to_le_bytes, from_le_bytes}
use Rattle.std.proofs.lemmas.List.{append-nil, length-take-le, take-take, drop-take}
use Rattle.std.proofs.lemmas.Nat.{from_le_bytes-to_le_bytes_8}
use Rattle.frame_file.specs.Device.{word_at, IsLeft}
use Rattle.frame_file.specs.Frame.{framed, IsPayload, MayBeTorn}
use Rattle.frame_file.proofs.Frames.{begun, first_part, second_part}

-- ---- a front of what is left

front_is : (k : ℕ) (there word : List ℕ) → there ≡ take (length there) word → take k there ≡ take (length (take k there)) word
front_is zero there word is = refl
front_is (suc k) [] word is = refl
front_is (suc k) (x ∷ there) [] is = absurd (let bad : x ∷ there ≡ [] = is in cc)
front_is (suc k) (x ∷ there) (w ∷ word) is =
    let one : x ≡ w = (let both : x ∷ there ≡ w ∷ take (length there) word = is in cc) in
    let more : there ≡ take (length there) word = (let both : x ∷ there ≡ w ∷ take (length there) word = is in cc) in
    let rest = front_is k there word more in
    joined x w (take k there) (take (length (take k there)) word) one rest
  where
    joined : (a b : ℕ) (xs ys : List ℕ) → a ≡ b → xs ≡ ys → a ∷ xs ≡ b ∷ ys
    joined a b xs ys e f = cc

left_front : (k : ℕ) (word there : List ℕ) → IsLeft word there → IsLeft word (take k there)
left_front k word there left = ⊎_elim (λ (is : there ≡ take (length there) word). inl (front_is k there word is))
    (λ (hole : there ≡ take (length there) (replicate 8 0)). inr (front_is k there (replicate 8 0) hole)) left

commute : (m n : ℕ) (xs : List ℕ) → take m (take n xs) ≡ take n (take m xs)
commute zero zero xs = refl
commute zero (suc n) xs = refl
commute (suc m) zero xs = refl
commute (suc m) (suc n) [] = refl
commute (suc m) (suc n) (x ∷ xs) = ap (λ (l : List ℕ). x ∷ l) (commute m n xs)

no_longer : (k : ℕ) (xs : List ℕ) → length (take k xs) ≤ length xs
no_longer zero xs = omega arith
no_longer (suc k) [] = omega arith
no_longer (suc k) (x ∷ xs) = (let rest = no_longer k xs in omega (arith, rest))

pub within : (k : ℕ) (xs : List ℕ) → length (take k xs) ≤ k
within zero xs = omega arith
within (suc k) [] = omega arith
within (suc k) (x ∷ xs) = (let rest = within k xs in omega (arith, rest))

-- the second word of a front that has it
second_word : (k : ℕ) (xs : List ℕ) → 16 ≤ k → word_at 1 (take k xs) ≡ word_at 1 xs
second_word k xs enough =
    let split : k ≡ 8 + (k - 8) = omega (arith, enough) in
    ap (λ (m : ℕ). take 8 (drop 8 (take m xs))) split
    ∙ (ap (λ (l : List ℕ). take 8 l) (drop-take 8 (k - 8) xs) ∙ take-take 8 (k - 8) (drop 8 xs) (omega (arith, enough)))

pub torn_front : (n k : ℕ) (rest : List ℕ) → MayBeTorn n rest → MayBeTorn n (take k rest)
torn_front n k rest t = record {
  numbered = subst (IsLeft (to_le_bytes w64 n)) (commute k 8 rest) (left_front k (to_le_bytes w64 n) (word_at 0 rest) t.numbered);
  measured = λ long.
      let enough : 16 ≤ k = omega (arith, long, within k rest) in
      let all : 16 ≤ length rest = omega (arith, long, no_longer k rest) in
      subst (λ (w : List ℕ). (from_le_bytes w64 w ≡ 0) ⊎ (length (take k rest) ≤ 24 + from_le_bytes w64 w)) (sym (second_word k rest enough))
      (⊎_elim (λ (none : from_le_bytes w64 (word_at 1 rest) ≡ 0). inl none)
      (λ (le : length rest ≤ 24 + from_le_bytes w64 (word_at 1 rest)). inr (omega (arith, le, no_longer k rest)))
      (t.measured all));
}

pub nothing_torn : (n : ℕ) (rest : List ℕ) → length rest ≡ 0 → MayBeTorn n rest
nothing_torn n [] none = record { numbered = inl refl; measured = λ long. absurd (omega (arith, long)) }
nothing_torn n (x ∷ rest) none = absurd (omega (arith, none))

-- ---- what a crash leaves of a frame

first_word : (n : ℕ) (p : List ℕ) → IsPayload p → word_at 0 (framed n p) ≡ to_le_bytes w64 n
first_word n p fits =
    let b = begun n p [] (framed n p) fits (sym (append-nil (framed n p))) in
    sym (take-take 8 24 (framed n p) (omega arith)) ∙ (ap (λ (l : List ℕ). take 8 l) b.head ∙ first_part n p)

length_word : (n : ℕ) (p : List ℕ) → IsPayload p → word_at 1 (framed n p) ≡ to_le_bytes w64 (length p)
length_word n p fits =
    let b = begun n p [] (framed n p) fits (sym (append-nil (framed n p))) in
    sym (second_word 24 (framed n p) (omega arith)) ∙ (ap (λ (l : List ℕ). take 8 (drop 8 l)) b.head ∙ second_part n p)

zeros : from_le_bytes w64 (take 8 (replicate 8 0)) ≡ 0
zeros = refl

-- a whole word that is left says the length, or nothing
says : (length_is : ℕ) (word : List ℕ) → length_is < 2 ^ 64 → length word ≡ 8 → IsLeft (to_le_bytes w64 length_is) word
    → (from_le_bytes w64 word ≡ 0) ⊎ (from_le_bytes w64 word ≡ length_is)
says m word small eight left =
    ⊎_elim
    (λ (is : word ≡ take (length word) (to_le_bytes w64 m)). inr
    (ap (λ (w : List ℕ). from_le_bytes w64 w) (is ∙ ap (λ (k : ℕ). take k (to_le_bytes w64 m)) eight)
    ∙ from_le_bytes-to_le_bytes_8 m small))
    (λ (hole : word ≡ take (length word) (replicate 8 0)). inl
    (ap (λ (w : List ℕ). from_le_bytes w64 w) (hole ∙ ap (λ (k : ℕ). take k (replicate 8 0)) eight) ∙ zeros))
    left

eight_there : (tail : List ℕ) → 16 ≤ length tail → length (word_at 1 tail) ≡ 8
eight_there tail long = length-take-le 8 (drop 8 tail) (omega (arith, long, length-drop 8 tail))

pub left_torn : (n : ℕ) (p tail : List ℕ) → IsPayload p → length tail ≤ 24 + length p
    → ((k : ℕ) → IsLeft (word_at k (framed n p)) (word_at k tail)) → MayBeTorn n tail
left_torn n p tail fits short words = record {
  numbered = subst (λ (w : List ℕ). IsLeft w (word_at 0 tail)) (first_word n p fits) (words 0);
  measured = λ long.
      let left = subst (λ (w : List ℕ). IsLeft w (word_at 1 tail)) (length_word n p fits) (words 1) in
      ⊎_elim (λ (none : from_le_bytes w64 (word_at 1 tail) ≡ 0). inl none)
      (λ (is : from_le_bytes w64 (word_at 1 tail) ≡ length p). inr (omega (arith, is, short)))
      (says (length p) (word_at 1 tail) fits (eight_there tail long) left);
}
