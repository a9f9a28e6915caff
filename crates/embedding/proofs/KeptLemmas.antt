-- The request that is taken out is the one that was found.
use Rattle.std.proofs.Common.{◌≡◌, ℕ, ◌<◌, List, Some, length, slice_index_or, refl, sym, subst, ◌∙◌}
use Rattle.std.proofs.lemmas.Option.{slice_get_read}
use Rattle.tc_core.specs.Core.{Asking}
use Rattle.embedding.specs.Serving.{IsKeptAt, IsRequestOf}

pub taken : (rs items : List Asking) (txn place : ℕ) (request : Asking) → items ≡ rs → IsRequestOf items txn place → place < length items
    → request ≡ slice_index_or rs place request → IsKeptAt rs txn place request
taken rs items txn place request same found inside value =
    let here : IsRequestOf rs txn place = subst (λ (xs : List Asking). IsRequestOf xs txn place) same found in
    let within : place < length rs = subst (λ (xs : List Asking). place < length xs) same inside in
    let both : Some here.request ≡ Some request = sym here.is.at ∙ slice_get_read rs (length rs) place request refl within value in
    let it : here.request ≡ request = cc in
    subst (λ (r : Asking). IsKeptAt rs txn place r) it here.is
