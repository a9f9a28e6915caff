-- One transaction more in a lane.
use Rattle.std.proofs.Common.{
  ◌≡◌,
  ◌∙◌,
  ℕ,
  zero,
  suc,
  ◌+◌,
  ◌<◌,
  ◌≤◌,
  ◌⊎◌,
  inl,
  inr,
  List,
  [],
  ◌∷◌,
  ◌++◌,
  length,
  Some,
  arith,
  ap,
  sym,
  subst,
  refl,
  length-append,
}
use Rattle.std.specs.Prelude.{slice_get}
use Rattle.std.proofs.lemmas.Option.{slice_get_within}
use Rattle.log_picture.specs.declared.life.Life.{Life}
use Rattle.log_picture.specs.Lives.{last_of}
use Rattle.log_picture.specs.Lanes.{AreApart}
use Rattle.log_picture.specs.Joining.Placing.{IsPlaced, AreLaid}

pub some_same : {X : Type 0} (x y : X) → Some x ≡ Some y → x ≡ y
some_same x y e = cc

none_there : {X : Type 0} (i : ℕ) (x : X) → slice_get {X = X} [] i ≡ Some x → ⊥
none_there zero x e = cc
none_there (suc i) x e = cc

-- an element of a list with one more behind it
pub at_end : {X : Type 0} (xs : List X) (y : X) (i : ℕ) (v : X) → slice_get (xs ++ y ∷ []) i ≡ Some v
    → (slice_get xs i ≡ Some v) ⊎ ((i ≡ length xs) × (y ≡ v))
at_end [] y zero v e = inr (refl, some_same y v e)
at_end [] y (suc i) v e = absurd (none_there i v e)
at_end (x ∷ xs) y zero v e = inl e
at_end (x ∷ xs) y (suc i) v e = elim (at_end xs y i v e) [ inl h ↦ inl h | inr h ↦ inr (ap suc h.0, h.1) ]

module _ (lives : List Life) (of lasts new : List ℕ) (n lane : ℕ) (life : Life) (laid : AreLaid lives of lasts n)
    (at : slice_get lives n ≡ Some life) (placed : IsPlaced lasts new lane life.begin (last_of life)) where
  -- the transaction at the end
  last_one : (i : ℕ) (a : Life) → i ≡ length of → slice_get lives i ≡ Some a → life ≡ a
  last_one i a is there = some_same life a (sym at ∙ ap (slice_get lives) (sym laid.each ∙ sym is) ∙ there)

  within_more : (i l : ℕ) → slice_get (of ++ lane ∷ []) i ≡ Some l → l < length new
  within_more i l e = elim (at_end of lane i l e) [
    | inl h ↦ omega (arith, laid.within i l h, placed.longer)
    | inr h ↦ subst (λ (k : ℕ). k < length new) h.1 (slice_get_within new lane placed.own.0 placed.own.1)
  ]

  held_more : (i l : ℕ) (a : Life) → slice_get (of ++ lane ∷ []) i ≡ Some l → slice_get lives i ≡ Some a
      → (until : ℕ) × (slice_get new l ≡ Some until) × (last_of a ≤ until)
  held_more i l a e there = elim (at_end of lane i l e) [
    | inl h ↦
        let was = laid.held i l a h there in
        let later = placed.held l was.0 was.1 in
        (later.0, later.1, omega (arith, was.2, later.2))
    | inr h ↦ (
      placed.own.0,
      subst (λ (k : ℕ). slice_get new k ≡ Some placed.own.0) h.1 placed.own.1,
      subst (λ (x : Life). last_of x ≤ placed.own.0) (last_one i a h.0 there) placed.own.2,
    )
  ]

  apart_more : (i j l : ℕ) (a b : Life) → i < j → slice_get (of ++ lane ∷ []) i ≡ Some l → slice_get (of ++ lane ∷ []) j ≡ Some l
      → slice_get lives i ≡ Some a → slice_get lives j ≡ Some b → last_of a < b.begin
  apart_more i j l a b less ei ej first second = elim (at_end of lane i l ei) [
    | inl hi ↦ elim (at_end of lane j l ej) [
      | inl hj ↦ laid.apart i j l a b less hi hj first second
      | inr hj ↦
          let was = laid.held i l a hi first in
          let free = placed.free was.0 (ap (slice_get lasts) hj.1 ∙ was.1) in
          let begins : life.begin ≡ b.begin = ap (λ (x : Life). x.begin) (last_one j b hj.0 second) in
          omega (arith, was.2, free, begins)
    ]
    | inr hi ↦ elim (at_end of lane j l ej) [
      | inl hj ↦ let inside = slice_get_within of j l hj in let same = hi.0 in absurd (omega (arith, less, inside, same))
      | inr hj ↦ let same = hi.0 in let other = hj.0 in absurd (omega (arith, less, same, other))
    ]
  ]

  pub laid_more : AreLaid lives (of ++ lane ∷ []) new (n + 1)
  laid_more = record {
    each = length-append of (lane ∷ []) ∙ ap (λ (k : ℕ). k + 1) laid.each;
    within = within_more;
    held = held_more;
    apart = apart_more;
  }

pub none_laid : (lives : List Life) → AreLaid lives [] [] 0
none_laid lives = record {
  each = refl;
  within = λ i lane e. absurd (none_there i lane e);
  held = λ i lane a e there. absurd (none_there i lane e);
  apart = λ i j lane a b less e f first second. absurd (none_there i lane e);
}

pub all_apart : (lives : List Life) (of lasts : List ℕ) → AreLaid lives of lasts (length lives) → AreApart lives of (length lasts)
all_apart lives of lasts laid = record { each = laid.each; within = laid.within; apart = laid.apart }
