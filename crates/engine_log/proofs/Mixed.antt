-- A list that is gone through from its front, and changed by another.
use Rattle.std.proofs.Common.{◌≡◌, ℕ, zero, suc, ◌<◌, List, [], ◌∷◌, length, map, get_or, refl, ap, arith}
use Rattle.std.specs.Prelude.{slice_set}

module _ {S N : Type 0} (f : S → N) where
  -- the first so many come from the one list, the others from the other
  abbrev pub mixed : ℕ → List S → List N → List N
  mixed zero ss ns = ns
  mixed (suc k) [] ns = ns
  mixed (suc k) (s ∷ ss) [] = []
  mixed (suc k) (s ∷ ss) (n ∷ ns) = f s ∷ mixed k ss ns

  pub mixed_all : (ss : List S) (ns : List N) → length ns ≡ length ss → mixed (length ss) ss ns ≡ map f ss
  mixed_all [] [] same = refl
  mixed_all [] (n ∷ ns) same = absurd (omega (arith, same))
  mixed_all (s ∷ ss) [] same = absurd (omega (arith, same))
  mixed_all (s ∷ ss) (n ∷ ns) same = ap (λ (l : List N). f s ∷ l) (mixed_all ss ns (omega (arith, same)))

  -- one more
  pub mixed_step : (k : ℕ) (ss : List S) (ns : List N) (d : S) → k < length ss → length ns ≡ length ss
      → slice_set (mixed k ss ns) k (f (get_or ss k d)) ≡ mixed (suc k) ss ns
  mixed_step k [] ns d below same = absurd (omega (arith, below))
  mixed_step k (s ∷ ss) [] d below same = absurd (omega (arith, same))
  mixed_step zero (s ∷ ss) (n ∷ ns) d below same = refl
  mixed_step (suc k) (s ∷ ss) (n ∷ ns) d below same =
      ap (λ (l : List N). f s ∷ l) (mixed_step k ss ns d (omega (arith, below)) (omega (arith, same)))

  -- one more that is the same
  pub mixed_same : (k : ℕ) (ss : List S) (ns : List N) (d : S) (e : N) → k < length ss → length ns ≡ length ss
      → get_or ns k e ≡ f (get_or ss k d) → mixed k ss ns ≡ mixed (suc k) ss ns
  mixed_same k [] ns d e below same is = absurd (omega (arith, below))
  mixed_same k (s ∷ ss) [] d e below same is = absurd (omega (arith, same))
  mixed_same zero (s ∷ ss) (n ∷ ns) d e below same is = ap (λ (x : N). x ∷ ns) is
  mixed_same (suc k) (s ∷ ss) (n ∷ ns) d e below same is =
      ap (λ (l : List N). f s ∷ l) (mixed_same k ss ns d e (omega (arith, below)) (omega (arith, same)) is)
