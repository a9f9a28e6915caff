-- How a loop over a list goes on.
use Rattle.std.proofs.Common.{◌≡◌, ◌∙◌, List, [], ◌∷◌, ◌++◌, length, refl, ap, sym, append_assoc, arith}
use Rattle.std.specs.Prelude.{Result, Ok, Err}
use Rattle.std.proofs.lemmas.List.{append-nil}
use Rattle.object_procedures.specs.Each.{and_then, each}

-- what was made, and what is to come
abbrev pub behind : {A W : Type 0} → List A → Result (List A) W → Result (List A) W
behind done (Ok more) = Ok (done ++ more)
behind done (Err why) = Err why

regroup : {A W : Type 0} (done : List A) (y : A) (said : Result (List A) W)
    → behind done (and_then said (λ ys. Ok (y ∷ ys))) ≡ behind (done ++ y ∷ []) said
regroup {A} done y (Ok ys) = ap (λ (zs : List A). Ok zs) (sym (append_assoc done (y ∷ []) ys))
regroup done y (Err why) = refl

-- the next one, as what it is
abbrev with_next : {A B W : Type 0} → (A → Result B W) → List B → List A → Result B W → Result (List B) W
with_next f done rest now = behind done (and_then now (λ y. and_then (each f rest) (λ ys. Ok (y ∷ ys))))

opened : {A B W : Type 0} (f : A → Result B W) (xs rest : List A) (x : A) (done : List B) (total : Result (List B) W)
    → xs ≡ x ∷ rest → total ≡ behind done (each f xs) → total ≡ with_next f done rest (f x)
opened {A} {B} {W} f xs rest x done total is so_far = so_far ∙ ap (λ (ys : List A). behind done (each f ys)) is

pub each_more : {A B W : Type 0} (f : A → Result B W) (xs rest : List A) (x : A) (y : B) (done new : List B)
    (total : Result (List B) W) → xs ≡ x ∷ rest → f x ≡ Ok y → new ≡ done ++ y ∷ []
    → total ≡ behind done (each f xs) → total ≡ behind new (each f rest)
each_more {A} {B} {W} f xs rest x y done new total is here grown so_far =
    opened f xs rest x done total is so_far
    ∙ ap (λ (r : Result B W). with_next f done rest r) here
    ∙ regroup done y (each f rest)
    ∙ ap (λ (ys : List B). behind ys (each f rest)) (sym grown)

pub each_bad : {A B W : Type 0} (f : A → Result B W) (xs rest : List A) (x : A) (why : W) (done : List B)
    (total : Result (List B) W) → xs ≡ x ∷ rest → f x ≡ Err why → total ≡ behind done (each f xs) → total ≡ Err why
each_bad {A} {B} {W} f xs rest x why done total is here so_far =
    opened f xs rest x done total is so_far ∙ ap (λ (r : Result B W). with_next f done rest r) here

pub each_end : {A B W : Type 0} (f : A → Result B W) (xs : List A) (done : List B) (total : Result (List B) W)
    → length xs ≡ 0 → total ≡ behind done (each f xs) → total ≡ Ok done
each_end {A} {B} {W} f [] done total none so_far = so_far ∙ ap (λ (ys : List B). Ok ys) (append-nil done)
each_end f (x ∷ xs) done total none so_far = absurd (omega (arith, none))
