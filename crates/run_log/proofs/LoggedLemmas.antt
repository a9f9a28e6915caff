-- Data components that are lent, and those that a script begins with.
use Rattle.std.proofs.Common.{◌≡◌, ◌∙◌, ◌++◌, List, ℕ, [], ◌∷◌, length, map, take, drop, refl, ap, arith}
use Rattle.std.specs.List.{All}
use Rattle.std.proofs.lemmas.List.{drop_all, take_all, append-nil}
use Rattle.std.proofs.lemmas.List.Elements.{All-cons, All-nil}
use Rattle.data_component.specs.Store.{Store}
use Rattle.scripts.specs.declared.script.Dc.{Dc}
use Rattle.script_loading.specs.Loading.{empty_store}
use Rattle.coming_back.specs.Coming.{HasOnlyRows}

-- a slice that is as long as the vector that lent it is all of it
pub lent_whole : (new old : List Store) (len : ℕ) → len ≡ length old → length new ≡ length old → take len (new ++ drop (length new) old) ≡ new
lent_whole new old len all same =
    let none : drop (length new) old ≡ [] = drop_all (length new) old (omega (arith, same)) in
    ap (λ (l : List Store). take len (new ++ l)) none ∙ (ap (λ (l : List Store). take len l) (append-nil new) ∙ take_all len new (omega (arith, all, same)))

-- the data components that a script begins with are empty
empty_one : (dc : Dc) → HasOnlyRows (empty_store dc)
empty_one dc = record { list = refl; saved = refl; mark = refl; saved_mark = refl; never = refl }

pub all_empty : (dcs : List Dc) → All HasOnlyRows (map empty_store dcs)
all_empty [] = All-nil HasOnlyRows
all_empty (dc ∷ dcs) = All-cons HasOnlyRows (empty_store dc) (map empty_store dcs) (empty_one dc) (all_empty dcs)
