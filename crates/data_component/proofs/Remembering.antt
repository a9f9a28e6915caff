-- Numbers and their places in the list of what was performed.
use Rattle.std.proofs.Common.{◌≡◌, ℕ, ◌-◌, ◌<◌, ◌≤◌, nat_lt, true, length, sym, ap, subst, arith, ◌∙◌, ◌≢◌}
use Rattle.std.specs.Prelude.{Option, Some, None, slice_get, slice_index_or}
use Rattle.std.proofs.lemmas.Bool.{cond-true, cond-false, eq-eqb, ne_eqb}
use Rattle.std.proofs.lemmas.Option.{slice_get_past, slice_get_within, slice_get-get_or}
use Rattle.data_component.specs.Sorted.{Kept, place_of, kept_place, SortedKept}
use Rattle.data_component.proofs.Finding.{value_at, find_at, place_past}
use Rattle.data_component.proofs.Orders.{numbers, number_eq}

-- ---- what stands at a number's place

seen : (o : Option (ℕ × ℕ)) (kept : Kept) (n i : ℕ) → SortedKept kept → i ≡ kept_place kept n → slice_get kept i ≡ o
    → place_of kept n ≡ value_at number_eq nat_lt numbers o n
seen o kept n i sorted is stands =
    find_at number_eq nat_lt numbers n kept sorted
    ∙ ap (λ (p : Option (ℕ × ℕ)). value_at number_eq nat_lt numbers p n) (ap (slice_get kept) (sym is) ∙ stands)

pub found_there : (kept : Kept) (n i place : ℕ) (d e : ℕ × ℕ) → SortedKept kept → i ≡ kept_place kept n
    → i < length kept → (slice_index_or kept i d).0 ≡ n → place ≡ (slice_index_or kept i e).1
    → Some place ≡ place_of kept n
found_there kept n i place d e sorted at inside same is = sym (
    seen (Some (slice_index_or kept i d)) kept n i sorted at (slice_get-get_or kept i d inside)
    ∙ cond-true _ _ _ (eq-eqb (slice_index_or kept i d).0 n same)
    ∙ ap (λ (x : ℕ × ℕ). Some x.1) (one_entry)
    ∙ ap Some (sym is))
  where
    one_entry : slice_index_or kept i d ≡ slice_index_or kept i e
    one_entry = let twice : Some (slice_index_or kept i d) ≡ Some (slice_index_or kept i e) = sym (slice_get-get_or kept i d inside) ∙ slice_get-get_or kept i e inside in cc

pub missing_there : (kept : Kept) (n i : ℕ) (d : ℕ × ℕ) → SortedKept kept → i ≡ kept_place kept n → i < length kept
    → (slice_index_or kept i d).0 ≢ n → None ≡ place_of kept n
missing_there kept n i d sorted at inside other = sym (
    seen (Some (slice_index_or kept i d)) kept n i sorted at (slice_get-get_or kept i d inside) ∙ cond-false _ _ _ (ne_eqb (slice_index_or kept i d).0 n other))

pub none_there : (kept : Kept) (n i : ℕ) → SortedKept kept → i ≡ kept_place kept n → length kept ≤ i → None ≡ place_of kept n
none_there kept n i sorted is past = sym (seen None kept n i sorted is (slice_get_past kept i past))

-- ---- the last entry

pub all_lesser : (kept : Kept) (n : ℕ) (last : ℕ × ℕ) → SortedKept kept → slice_get kept (length kept - 1) ≡ Some last
    → nat_lt last.0 n ≡ true → kept_place kept n ≡ length kept
all_lesser kept n last sorted at lesser =
    let i = length kept - 1 in
    let inside = slice_get_within kept i last at in
    let both : Some (slice_index_or kept i last) ≡ Some last = sym (slice_get-get_or kept i last inside) ∙ at in
    let same : slice_index_or kept i last ≡ last = cc in
    place_past number_eq nat_lt numbers n kept i last sorted (omega (arith, inside)) (subst (λ (x : ℕ × ℕ). nat_lt x.0 n ≡ true) (sym same) lesser)
