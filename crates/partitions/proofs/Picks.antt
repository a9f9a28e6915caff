-- What is picked of one partition, and put back.
use Rattle.std.proofs.Common.{arith, ◌≡◌, ◌∙◌, ◌<◌, ◌≤◌, ◌==◌, ℕ, ◌+◌, Bool, true, false, List, [], ◌∷◌, ◌++◌, length, take, get_or, refl, sym, ap, subst}
use Rattle.std.proofs.Common.{inl, inr, set}
use Rattle.std.specs.Prelude.{◌⊎◌, cond, count_by, if◌then◌else◌, Some, slice_get}
use Rattle.std.specs.Global.{Vec}
use Rattle.std.specs.List.{list_any}
use Rattle.std.proofs.lemmas.Bool.{or_parts, eq-eqb, eqb-true}
use Rattle.std.proofs.lemmas.List.{append-nil, get_or-set_other, get_or-set_same, length-take-le, take_all, take_more}
use Rattle.std.proofs.lemmas.List.Sums.{count_by_more_no, count_by_more_yes, sum_by-cons, sum_by-take-le}
use Rattle.std.proofs.lemmas.Option.{slice_get_within}
use Rattle.partitions.specs.Picking.{own_item, picked, FitsParts, IsMerged}

-- ---- one item more

by_first : {Y : Type 0} (b : Bool) (y : Y) (all own last : List Y) → all ≡ own ++ last → (if b then y ∷ all else all) ≡ (if b then y ∷ own else own) ++ last
by_first true y all own last is = ap (λ l. y ∷ l) is
by_first false y all own last is = is

alone : {Y : Type 0} (b : Bool) (y : Y) → (if b then y ∷ [] else []) ≡ own_item b y
alone true y = refl
alone false y = refl

pub picked_push : {X : Type 0} (p : ℕ) (ns : List ℕ) (xs : List X) (n : ℕ) (x : X) → length xs ≡ length ns
    → picked p (ns ++ n ∷ []) (xs ++ x ∷ []) ≡ picked p ns xs ++ own_item (n == p) x
picked_push p [] [] n x same = alone (n == p) x
picked_push p [] (y ∷ xs) n x same = absurd (omega (arith, same))
picked_push p (m ∷ ns) [] n x same = absurd (omega (arith, same))
picked_push p (m ∷ ns) (y ∷ xs) n x same =
    by_first (m == p) y (picked p (ns ++ n ∷ []) (xs ++ x ∷ [])) (picked p ns xs) (own_item (n == p) x) (picked_push p ns xs n x (omega (arith, same)))

-- ---- how long it is

longer : {Y : Type 0} (b : Bool) (y : Y) (own : List Y) (n : ℕ) → length own ≡ n → length (if b then y ∷ own else own) ≡ cond b 1 0 + n
longer true y own n is = omega (arith, is)
longer false y own n is = omega (arith, is)

-- as often as its number stands there
pub picked_long : {X : Type 0} (p : ℕ) (ns : List ℕ) (xs : List X) → length xs ≡ length ns
    → length (picked p ns xs) ≡ count_by (λ (number : ℕ). number == p) ns
picked_long p [] [] same = refl
picked_long p [] (y ∷ xs) same = absurd (omega (arith, same))
picked_long p (m ∷ ns) [] same = absurd (omega (arith, same))
picked_long p (m ∷ ns) (y ∷ xs) same =
    longer (m == p) y (picked p ns xs) (count_by (λ (number : ℕ). number == p) ns) (picked_long p ns xs (omega (arith, same)))
    ∙ sym (sum_by-cons (λ (number : ℕ). cond (number == p) 1 0) m ns)

-- nothing is of it
pub picked_none : {X : Type 0} (p : ℕ) (ns : List ℕ) (xs : List X) → list_any (λ (n : ℕ). n == p) ns ≡ false → picked p ns xs ≡ []
picked_none p [] xs none = refl
picked_none p (m ∷ ns) [] none = refl
picked_none p (m ∷ ns) (y ∷ xs) none =
    let both = or_parts (m == p) (list_any (λ (n : ℕ). n == p) ns) none in
    rw both.0 (picked_none p ns xs both.1)

-- ---- all parts together

same_number : (n : ℕ) → (n == n) ≡ true
same_number n = eq-eqb n n refl

by_test : (n p : ℕ) (b : Bool) → (n == p) ≡ b → (n ≡ p) ⊎ ((n == p) ≡ false)
by_test n p true is = inl (eqb-true n p is)
by_test n p false is = inr is

same_or_not : (n p : ℕ) → (n ≡ p) ⊎ ((n == p) ≡ false)
same_or_not n p = by_test n p (n == p) refl

-- the number at a place stands there once more than before
counted_here : (ns : List ℕ) (k n : ℕ) → k < length ns → n ≡ get_or ns k 0
    → count_by (λ (number : ℕ). number == n) (take (k + 1) ns) ≡ count_by (λ (number : ℕ). number == n) (take k ns) + 1
counted_here ns k n lt is =
    count_by_more_yes (λ (number : ℕ). number == n) ns k 0 lt (subst (λ (m : ℕ). (m == n) ≡ true) is (same_number n))

counted_other : (ns : List ℕ) (k n p : ℕ) → k < length ns → n ≡ get_or ns k 0 → (n == p) ≡ false
    → count_by (λ (number : ℕ). number == p) (take (k + 1) ns) ≡ count_by (λ (number : ℕ). number == p) (take k ns)
counted_other ns k n p lt is other =
    count_by_more_no (λ (number : ℕ). number == p) ns k 0 lt (subst (λ (m : ℕ). (m == p) ≡ false) is other)

module _ {X : Type 0} (ns : List ℕ) (parts : List (Vec X)) (k n : ℕ) (part : Vec X) (fits : FitsParts ns parts) (lt : k < length ns)
    (is : n ≡ get_or ns k 0) (at : slice_get parts n ≡ Some part) where
  -- the next item of a part is there
  pub next_there : count_by (λ (number : ℕ). number == n) (take k ns) < length part.items
  next_there =
      let more = counted_here ns k n lt is in
      let less = sum_by-take-le (λ (number : ℕ). cond (number == n) 1 0) ns (k + 1) in
      let long = fits.as_many n part at in
      omega (arith, more, less, long)

  module _ (taken : List ℕ) (long : length taken ≡ length parts) (place : ℕ) (place_is : place ≡ get_or taken n 0)
      (counted : (p : ℕ) → p < length parts → get_or taken p 0 ≡ count_by (λ (number : ℕ). number == p) (take k ns)) where
    pub counted_more : (p : ℕ) → p < length parts
        → get_or (set taken n (place + 1)) p 0 ≡ count_by (λ (number : ℕ). number == p) (take (k + 1) ns)
    counted_more p below =
        elim (same_or_not n p) [
          | inl same ↦ subst (λ (q : ℕ). get_or (set taken n (place + 1)) q 0 ≡ count_by (λ (number : ℕ). number == q) (take (k + 1) ns)) same
              (get_or-set_same taken n (place + 1) 0 (omega (arith, long, slice_get_within parts n part at))
              ∙ (ap (λ (m : ℕ). m + 1) (place_is ∙ counted n (slice_get_within parts n part at)) ∙ sym (counted_here ns k n lt is)))
          | inr other ↦ get_or-set_other taken n p (place + 1) 0 (λ same. apart n p other same)
              ∙ (counted p below ∙ sym (counted_other ns k n p lt is other))
        ]
      where
        apart : (n p : ℕ) → (n == p) ≡ false → p ≡ n → ⊥
        apart n p other same = let yes : (n == p) ≡ true = eq-eqb n p (sym same) in cc

    pub own_more : (all : List X) (x : X) → length all ≡ k → x ≡ get_or part.items place x
        → ((p : ℕ) (own : Vec X) → slice_get parts p ≡ Some own → picked p (take k ns) all ≡ take (get_or taken p 0) own.items)
        → (p : ℕ) (own : Vec X) → slice_get parts p ≡ Some own
        → picked p (take (k + 1) ns) (all ++ x ∷ []) ≡ take (get_or (set taken n (place + 1)) p 0) own.items
    own_more all x each x_is owned p own there =
        let split : picked p (take (k + 1) ns) (all ++ x ∷ []) ≡ picked p (take k ns) all ++ own_item (n == p) x =
        ap (λ (l : List ℕ). picked p l (all ++ x ∷ [])) (take_more ns k 0 lt ∙ ap (λ (m : ℕ). take k ns ++ m ∷ []) (sym is))
        ∙ picked_push p (take k ns) all n x (omega (arith, each, length-take-le k ns (omega (arith, lt)))) in
        elim (same_or_not n p) [
          | inl same ↦
              let here : Some own ≡ Some part = sym there ∙ (ap (slice_get parts) (sym same) ∙ at) in
              let own_is : own ≡ part = cc in
              let room : place < length part.items = omega (arith, place_is, counted n (slice_get_within parts n part at), next_there) in
              let yes : (n == p) ≡ true = eq-eqb n p same in
              let before : picked p (take k ns) all ≡ take place own.items =
              owned p own there ∙ ap (λ (m : ℕ). take m own.items) (ap (λ (q : ℕ). get_or taken q 0) (sym same) ∙ sym place_is) in
              let taken_is : get_or (set taken n (place + 1)) p 0 ≡ place + 1 =
              ap (λ (q : ℕ). get_or (set taken n (place + 1)) q 0) (sym same)
              ∙ get_or-set_same taken n (place + 1) 0 (omega (arith, long, slice_get_within parts n part at)) in
              let more : take (place + 1) own.items ≡ take place own.items ++ x ∷ [] =
              rw own_is (take_more part.items place x room ∙ ap (λ (y : X). take place part.items ++ y ∷ []) (sym x_is)) in
              split ∙ (ap (λ (b : Bool). picked p (take k ns) all ++ own_item b x) yes
              ∙ (ap (λ (l : List X). l ++ x ∷ []) before ∙ (sym more ∙ ap (λ (m : ℕ). take m own.items) (sym taken_is))))
          | inr other ↦
              let differs : p ≡ n → ⊥ = λ same. (let yes : (n == p) ≡ true = eq-eqb n p (sym same) in cc) in
              split ∙ (ap (λ (b : Bool). picked p (take k ns) all ++ own_item b x) other
              ∙ (append-nil (picked p (take k ns) all) ∙ (owned p own there
              ∙ ap (λ (m : ℕ). take m own.items) (sym (get_or-set_other taken n p (place + 1) 0 differs)))))
        ]

-- all are taken
pub all_merged : {X : Type 0} (ns : List ℕ) (parts : List (Vec X)) (k : ℕ) (taken : List ℕ) (all : List X) → FitsParts ns parts → length ns ≤ k
    → length all ≡ k → k ≤ length ns
    → ((p : ℕ) → p < length parts → get_or taken p 0 ≡ count_by (λ (number : ℕ). number == p) (take k ns))
    → ((p : ℕ) (own : Vec X) → slice_get parts p ≡ Some own → picked p (take k ns) all ≡ take (get_or taken p 0) own.items)
    → IsMerged ns parts all
all_merged ns parts k taken all fits end each low counted owned = record {
  each = omega (arith, each, end, low);
  own = λ p part at.
      let whole = take_all k ns end in
      let count : get_or taken p 0 ≡ length part.items =
      counted p (slice_get_within parts p part at) ∙ (ap (count_by (λ (number : ℕ). number == p)) whole ∙ sym (fits.as_many p part at)) in
      ap (λ (l : List ℕ). picked p l all) (sym whole) ∙ (owned p part at ∙ take_all (get_or taken p 0) part.items (omega (arith, count)));
}
