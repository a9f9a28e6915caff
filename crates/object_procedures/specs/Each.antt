-- What each of a list is, up to the first refusal.
use Rattle.std.specs.Prelude.{List, [], ◌∷◌, ◌++◌, Result, Ok, Err}

abbrev pub and_then : {A B W : Type 0} → Result A W → (A → Result B W) → Result B W
and_then (Ok a) f = f a
and_then (Err why) f = Err why

abbrev pub each : {A B W : Type 0} → (A → Result B W) → List A → Result (List B) W
each f [] = Ok []
each f (x ∷ xs) = and_then (f x) (λ y. and_then (each f xs) (λ ys. Ok (y ∷ ys)))

abbrev pub there : {A W : Type 0} → Result A W → List A
there (Ok a) = a ∷ []
there (Err why) = []

abbrev pub why_not : {A W : Type 0} → Result A W → List W
why_not (Ok a) = []
why_not (Err why) = why ∷ []

-- those of a list that are something, and why the others aren't
abbrev pub kept : {A B W : Type 0} → (A → Result B W) → List A → List B
kept f [] = []
kept f (x ∷ xs) = there (f x) ++ kept f xs

abbrev pub refusals : {A B W : Type 0} → (A → Result B W) → List A → List W
refusals f [] = []
refusals f (x ∷ xs) = why_not (f x) ++ refusals f xs
