-- A name in two parts.
use Rattle.std.proofs.Common.{◌≡◌, ℕ, Bool, true, false, ◌&&◌, List, [], ◌∷◌, ◌++◌, length, take, drop, refl, ap, ◌∙◌}
use Rattle.std.specs.Str.{bytes_eq}
use Rattle.std.specs.Prelude.{◌==◌}

and-assoc : (a b d : Bool) → (a && (b && d)) ≡ ((a && b) && d)
and-assoc true b d = refl
and-assoc false b d = refl

pub in_parts : (text stem suffix : List ℕ)
    → bytes_eq text (stem ++ suffix) ≡ (bytes_eq (take (length stem) text) stem && bytes_eq (drop (length stem) text) suffix)
in_parts text [] suffix = refl
in_parts [] (s ∷ stem) suffix = refl
in_parts (t ∷ text) (s ∷ stem) suffix = ap (λ (b : Bool). (t == s) && b) (in_parts text stem suffix) ∙ and-assoc (t ==
    s) (bytes_eq (take (length stem) text) stem) (bytes_eq (drop (length stem) text) suffix)
