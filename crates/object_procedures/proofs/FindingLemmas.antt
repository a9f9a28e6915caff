-- How a loop goes on that keeps what is found, and why the rest isn't.
use Rattle.std.proofs.Common.{◌≡◌, ◌∙◌, List, ◌∷◌, ◌++◌, ap, sym, append_assoc}
use Rattle.std.specs.Prelude.{Result}
use Rattle.object_procedures.specs.Each.{there, why_not, kept, refusals}

pub kept_more : {A B W : Type 0} (f : A → Result B W) (xs rest : List A) (x : A) (items new : List B) (r : Result B W) (total : List B)
    → xs ≡ x ∷ rest → f x ≡ r → new ≡ items ++ there r → items ++ kept f xs ≡ total → new ++ kept f rest ≡ total
kept_more {A} {B} {W} f xs rest x items new r total is here grown so_far =
    ap (λ (ys : List B). ys ++ kept f rest) grown
    ∙ append_assoc items (there r) (kept f rest)
    ∙ ap (λ (s : Result B W). items ++ (there s ++ kept f rest)) (sym here)
    ∙ ap (λ (ys : List A). items ++ kept f ys) (sym is)
    ∙ so_far

pub refusals_more : {A B W : Type 0} (f : A → Result B W) (xs rest : List A) (x : A) (items new : List W) (r : Result B W) (total : List W)
    → xs ≡ x ∷ rest → f x ≡ r → new ≡ items ++ why_not r → items ++ refusals f xs ≡ total → new ++ refusals f rest ≡ total
refusals_more {A} {B} {W} f xs rest x items new r total is here grown so_far =
    ap (λ (ys : List W). ys ++ refusals f rest) grown
    ∙ append_assoc items (why_not r) (refusals f rest)
    ∙ ap (λ (s : Result B W). items ++ (why_not s ++ refusals f rest)) (sym here)
    ∙ ap (λ (ys : List A). items ++ refusals f ys) (sym is)
    ∙ so_far
