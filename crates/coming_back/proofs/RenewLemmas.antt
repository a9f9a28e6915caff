-- A list each of whose elements is changed in its turn.
use Rattle.std.proofs.Common.{◌≡◌, ℕ, zero, suc, ◌<◌, ◌≤◌, List, [], ◌∷◌, length, map, Some, refl, sym, ◌∙◌, ap, arith}
use Rattle.std.specs.Prelude.{get_or, slice_get, slice_set}
use Rattle.std.proofs.lemmas.Option.{slice_get_read}

-- the first n are changed
abbrev pub mapped : {X : Type 0} → (X → X) → List X → ℕ → List X
mapped f [] n = []
mapped f (x ∷ xs) zero = x ∷ xs
mapped f (x ∷ xs) (suc n) = f x ∷ mapped f xs n

pub mapped_none : {X : Type 0} (f : X → X) (xs : List X) → mapped f xs 0 ≡ xs
mapped_none f [] = refl
mapped_none f (x ∷ xs) = refl

pub mapped_all : {X : Type 0} (f : X → X) (xs : List X) (n : ℕ) → length xs ≤ n → mapped f xs n ≡ map f xs
mapped_all f [] n low = refl
mapped_all f (x ∷ xs) zero low = absurd (omega (arith, low))
mapped_all f (x ∷ xs) (suc n) low = ap (λ ys. f x ∷ ys) (mapped_all f xs n (omega (arith, low)))

-- the next one is as it was
pub mapped_get : {X : Type 0} (f : X → X) (xs : List X) (n : ℕ) → slice_get (mapped f xs n) n ≡ slice_get xs n
mapped_get f [] n = refl
mapped_get f (x ∷ xs) zero = refl
mapped_get f (x ∷ xs) (suc n) = mapped_get f xs n

-- the same of what is read there
pub mapped_read : {X : Type 0} (f : X → X) (xs ys : List X) (n : ℕ) (x : X) → ys ≡ mapped f xs n → n < length ys → x ≡ get_or ys n x
    → slice_get xs n ≡ Some x
mapped_read f xs ys n x is low read =
    sym (mapped_get f xs n) ∙ (ap (λ zs. slice_get zs n) (sym is) ∙ slice_get_read ys (length ys) n x refl low read)

pub mapped_next : {X : Type 0} (f : X → X) (xs : List X) (n : ℕ) (x : X) → slice_get xs n ≡ Some x → slice_set (mapped f xs n) n (f x) ≡ mapped f xs (suc n)
mapped_next f [] n x at = absurd cc
mapped_next f (y ∷ xs) zero x at = (let same : y ≡ x = cc in ap (λ z. f z ∷ xs) (sym same) ∙ ap (λ ys. f y ∷ ys) (sym (mapped_none f xs)))
mapped_next f (y ∷ xs) (suc n) x at = ap (λ ys. f y ∷ ys) (mapped_next f xs n x at)
