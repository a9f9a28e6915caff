-- Some of a log's events.
use Rattle.std.proofs.Common.{arith, ◌≡◌, ℕ, zero, suc, ◌+◌, ◌-◌, ◌<◌, ◌≤◌, ◌^◌, Fits, w64, List, [], ◌∷◌, length, take, drop, reverse}
use Rattle.std.proofs.Common.{sym, refl, ap, ◌∙◌}
use Rattle.std.specs.Prelude.{Some, None}
use Rattle.std.specs.List.{slice_get}
use Rattle.std.proofs.lemmas.List.{length-drop, length-take-le, length-reverse, take_all, drop-drop}
use Rattle.tc_log.specs.declared.event.Event.{Event}

pub part_count : (events : List Event) (first count : ℕ) → first + count ≤ length events → length (take count (drop first (reverse events))) ≡ count
part_count events first count inside =
    length-take-le count (drop first (reverse events)) (let left = length-drop first (reverse events) in let all = length-reverse events in omega (arith, left, all, inside))

pub part_inside : (events : List Event) (first count place : ℕ) → first + count ≤ length events → place < length (take count (drop first (reverse events)))
    → place < count
part_inside events first count place inside few = let same = part_count events first count inside in omega (arith, same, few)

pub part_within : (events : List Event) (first count place : ℕ) → first + count ≤ length events → place ≤ length (take count (drop first (reverse events)))
    → place ≤ count
part_within events first count place inside few = let same = part_count events first count inside in omega (arith, same, few)

get_drop : (xs : List Event) (n i : ℕ) → slice_get (drop n xs) i ≡ slice_get xs (n + i)
get_drop xs zero i = ap (slice_get xs) (same i)
  where
    same : (k : ℕ) → k ≡ 0 + k
    same k = omega arith
get_drop [] (suc n) i = refl
get_drop (x ∷ xs) (suc n) i = get_drop xs n i ∙ ap (slice_get (x ∷ xs)) (next n i)
  where
    next : (a b : ℕ) → suc (a + b) ≡ suc a + b
    next a b = omega arith

get_take : (xs : List Event) (n i : ℕ) → i < n → slice_get (take n xs) i ≡ slice_get xs i
get_take xs zero i few = absurd (omega (arith, few))
get_take [] (suc n) i few = refl
get_take (x ∷ xs) (suc n) zero few = refl
get_take (x ∷ xs) (suc n) (suc i) few = get_take xs n i (omega (arith, few))

pub part_at : (events : List Event) (first count place : ℕ) (e : Event) → place < count → slice_get (reverse events) (first + place) ≡ Some e
    → slice_get (take count (drop first (reverse events))) place ≡ Some e
part_at events first count place e inside is = get_take (drop first (reverse events)) count place inside ∙ get_drop (reverse events) first place ∙ is

pub none_at : (xs : List Event) (i : ℕ) → length xs ≤ i → slice_get xs i ≡ None
none_at [] i few = refl
none_at (x ∷ xs) zero few = absurd (omega (arith, few))
none_at (x ∷ xs) (suc i) few = none_at xs i (omega (arith, few))

taken_nothing : (k : ℕ) → take {A = Event} k [] ≡ []
taken_nothing zero = refl
taken_nothing (suc k) = refl

drop_taken : (xs : List Event) (n i : ℕ) → drop i (take n xs) ≡ take (n - i) (drop i xs)
drop_taken xs n zero = ap (λ (k : ℕ). take k xs) (all n)
  where
    all : (k : ℕ) → k ≡ k - 0
    all k = omega arith
drop_taken xs zero (suc i) = ap (λ (k : ℕ). take k (drop (suc i) xs)) (none i)
  where
    none : (k : ℕ) → 0 ≡ 0 - suc k
    none k = omega arith
drop_taken [] (suc n) (suc i) = sym (taken_nothing (suc n - suc i))
drop_taken (x ∷ xs) (suc n) (suc i) = drop_taken xs n i ∙ ap (λ (k : ℕ). take k (drop i xs)) (less n i)
  where
    less : (a b : ℕ) → a - b ≡ suc a - suc b
    less a b = omega arith

pub part_behind : (events : List Event) (first count place : ℕ)
    → take (count - place) (drop (first + place) (reverse events)) ≡ drop place (take count (drop first (reverse events)))
part_behind events first count place =
    ap (λ (xs : List Event). take (count - place) xs) (sym (drop-drop place first (reverse events))) ∙ sym (drop_taken (drop first (reverse events)) count place)

take_taken : (xs : List Event) (n i : ℕ) → i ≤ n → take i xs ≡ take i (take n xs)
take_taken xs n zero few = refl
take_taken xs zero (suc i) few = absurd (omega (arith, few))
take_taken [] (suc n) (suc i) few = refl
take_taken (x ∷ xs) (suc n) (suc i) few = ap (λ (ys : List Event). x ∷ ys) (take_taken xs n i (omega (arith, few)))

pub part_before : (events : List Event) (first count few : ℕ) → few ≤ count
    → take few (drop first (reverse events)) ≡ take few (take count (drop first (reverse events)))
part_before events first count few less = take_taken (drop first (reverse events)) count few less

pub all_of : (events : List Event) (count : ℕ) → count ≡ length events → take count (drop 0 (reverse events)) ≡ reverse events
all_of events count is = take_all count (reverse events) (let same = length-reverse events in omega (arith, same, is))

pub fits_inside : (first count place : ℕ) → place ≤ count → first + count ≤ 2 ^ 60 → Fits w64 (first + place)
fits_inside first count place few fit = omega (arith, few, fit)

pub fits_below : (first count place : ℕ) → place < count → first + count ≤ 2 ^ 60 → Fits w64 (first + place)
fits_below first count place few fit = omega (arith, few, fit)
