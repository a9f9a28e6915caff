-- Lists that are mapped.
use Rattle.std.proofs.Common.{◌≡◌, ◌+◌, Bool, List, [], ◌∷◌, ◌++◌, map, Some, None, refl, ◌∙◌, ap, suc, length, cond, not}
use Rattle.std.specs.Prelude.{position, nat_lt}
use Rattle.std.specs.List.{prefix_len, position_or_len, AllZip}

pub map-push : {X Y : Type 0} (f : X → Y) (xs : List X) (x : X) → map f (xs ++ x ∷ []) ≡ map f xs ++ f x ∷ []
map-push f [] x = refl
map-push f (y ∷ xs) x = ap (λ l. f y ∷ l) (map-push f xs x)

-- lists of which each place is mapped to the same are mapped to the same
pub zip-mapped : {X Y Z : Type 0} (R : X → X → Type 0) (g : X → Y) (f : Y → Z)
    → ((x y : X) → R x y → f (g y) ≡ f (g x)) → (xs ys : List X) → AllZip R xs ys → map f (map g ys) ≡ map f (map g xs)
zip-mapped R g f same [] [] all = refl
zip-mapped R g f same [] (y ∷ ys) all = absurd all
zip-mapped R g f same (x ∷ xs) [] all = absurd all
zip-mapped R g f same (x ∷ xs) (y ∷ ys) all = (let one = same x y all.0 in let rest = zip-mapped R g f same xs ys all.1 in rw (one, rest) refl)

prefix-map : {X Y : Type 0} (f : X → Y) (p : Y → Bool) (xs : List X) → prefix_len p (map f xs) ≡ prefix_len (λ x. p (f x)) xs
prefix-map f p [] = refl
prefix-map f p (x ∷ xs) = ap (λ n. cond (p (f x)) (1 + n) 0) (prefix-map f p xs)

length-map' : {X Y : Type 0} (f : X → Y) (xs : List X) → length (map f xs) ≡ length xs
length-map' f [] = refl
length-map' f (x ∷ xs) = ap suc (length-map' f xs)

pub position-map : {X Y : Type 0} (f : X → Y) (p : Y → Bool) (xs : List X) → position p (map f xs) ≡ position (λ x. p (f x)) xs
position-map f p xs =
    let first : position_or_len p (map f xs) ≡ position_or_len (λ x. p (f x)) xs = prefix-map f (λ y. not (p y)) xs in
    let long = length-map' f xs in
    ap (λ n. cond (nat_lt n (length (map f xs))) (Some n) None) first
    ∙ ap (λ n. cond (nat_lt (position_or_len (λ x. p (f x)) xs) n) (Some (position_or_len (λ x. p (f x)) xs)) None) long
