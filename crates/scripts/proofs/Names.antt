-- Names that are looked up among keys.
use Rattle.std.proofs.Common.{◌≡◌, ℕ, ◌+◌, Bool, false, not, cond, nat_lt, List, [], ◌∷◌, ◌++◌, map, refl, ap, ap₂, ◌∙◌, sym}
use Rattle.std.specs.Prelude.{Some, None, ◌||◌}
use Rattle.std.specs.Borrow.{Bor}
use Rattle.std.specs.List.{list_any, position, position_or_len}
use Rattle.std.proofs.lemmas.List.{length-map, map-append}
use Rattle.indexmap.specs.IndexSet.{insert_key}
use Rattle.std.specs.Str.{bytes_eq}

abbrev text : Bor (List ℕ) → List ℕ
text k = k.now

pub any_text : (name : List ℕ) (keys : List (Bor (List ℕ)))
    → list_any (λ k. bytes_eq name k.now) keys ≡ list_any (bytes_eq name) (map (λ k. k.now) keys)
any_text name [] = refl
any_text name (k ∷ keys) = ap (λ (b : Bool). bytes_eq name k.now || b) (any_text name keys)

first_of_text : (name : List ℕ) (keys : List (Bor (List ℕ)))
    → position_or_len (λ k. bytes_eq name k.now) keys ≡ position_or_len (bytes_eq name) (map (λ k. k.now) keys)
first_of_text name [] = refl
first_of_text name (k ∷ keys) = ap (λ (n : ℕ). cond (not (bytes_eq name k.now)) (1 + n) 0) (first_of_text name keys)

pub place_of_text : (name : List ℕ) (keys : List (Bor (List ℕ)))
    → position (λ k. bytes_eq name k.now) keys ≡ position (bytes_eq name) (map (λ k. k.now) keys)
place_of_text name keys =
    ap₂ (λ (i n : ℕ). cond (nat_lt i n) (Some i) None) (first_of_text name keys) (sym (length-map keys (λ (k : Bor (List ℕ)). k.now)))

-- a key more
pub one_text_more : (keys : List (Bor (List ℕ))) (k : Bor (List ℕ)) (name : List ℕ) → k.now ≡ name
    → list_any (bytes_eq name) (map (λ x. x.now) keys) ≡ false
    → map (λ x. x.now) (insert_key (λ x y. bytes_eq x.now y.now) keys k) ≡ map (λ x. x.now) keys ++ name ∷ []
one_text_more keys k name is free =
    let absent : list_any (λ x. bytes_eq k.now x.now) keys ≡ false = ap (λ (t : List ℕ). list_any (λ (x : Bor (List ℕ)). bytes_eq t x.now) keys) is ∙ any_text name keys ∙ free in
    ap (λ (b : Bool). map (λ (x : Bor (List ℕ)). x.now) (cond b keys (keys ++ k ∷ []))) absent
    ∙ map-append (λ (x : Bor (List ℕ)). x.now) keys (k ∷ [])
    ∙ ap (λ (t : List ℕ). map (λ (x : Bor (List ℕ)). x.now) keys ++ t ∷ []) is
