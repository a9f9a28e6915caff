-- A data component that forgets what it has performed.
use Rattle.std.proofs.Common.{arith, ◌≡◌, ℕ, ◌≤◌, Bool, true, false, nat_le, List, [], ◌∷◌, length, take, sym, refl, ap, ◌∙◌}
use Rattle.std.specs.Prelude.{◌==◌, ◌&&◌, reverse}
use Rattle.std.proofs.lemmas.Bool.{eq-eqb}
use Rattle.std.proofs.lemmas.Bool.Decides.{nat_tests}
use Rattle.std.proofs.lemmas.List.{length-reverse, length-take-le, reverse-append}
use Rattle.std.proofs.lemmas.List.Folds.{list_all-append}
use Rattle.data_component.specs.Performed.{Performed, count, all_at_most}
use Rattle.data_component.specs.Sorted.{Rows}
use Rattle.data_component.specs.Store.{Store, may_forget}

turned : (a b : Bool) → (a && (b && true)) ≡ (b && a)
turned true true = refl
turned true false = refl
turned false true = refl
turned false false = refl

-- in whichever order they are looked at
pub all_reversed : (n : ℕ) (list : List Performed) → all_at_most n (reverse list) ≡ all_at_most n list
all_reversed n [] = refl
all_reversed n (e ∷ list) =
    ap (all_at_most n) (reverse-append (e ∷ []) list)
    ∙ list_all-append (λ (x : Performed). nat_le x.0 n) (reverse list) (e ∷ [])
    ∙ turned (all_at_most n (reverse list)) (nat_le e.0 n)
    ∙ ap (λ (b : Bool). nat_le e.0 n && b) (all_reversed n list)

le_true : (a b : ℕ) → a ≤ b → nat_le a b ≡ true
le_true a b below = grind (arith, nat_tests)

by_parts : (a b c : Bool) → a ≡ true → b ≡ true → c ≡ (a && b && c)
by_parts a b c one two = rw (one, two) refl

-- where the checkpoint has all and no more records are present than may be, the numbers tell
pub forgets : (s : Store) → length s.saved ≡ length s.list → count s.base s.list ≤ s.rows → all_at_most s.saved_mark s.list ≡ may_forget s
forgets s all few =
    by_parts (length s.saved == length s.list) (nat_le (count s.base s.list) s.rows) (all_at_most s.saved_mark s.list)
    (eq-eqb (length s.saved) (length s.list) all) (le_true (count s.base s.list) s.rows few)

abbrev kept_so : Rows → ℕ → List Performed → ℕ → ℕ → ℕ → ℕ → ℕ → ℕ → Store
kept_so base base_mark performed mark saved saved_mark incarnation rows ops = record {
  base = base;
  base_mark = base_mark;
  list = reverse performed;
  mark = mark;
  saved = reverse (take saved performed);
  saved_mark = saved_mark;
  incarnation = incarnation;
  rows = rows;
  ops = ops;
}

-- the same of what is kept
pub tells : (base : Rows) (base_mark : ℕ) (performed seen : List Performed) (mark saved saved_mark incarnation rows ops : ℕ) → seen ≡ performed
    → saved ≡ length performed → count base (reverse performed) ≤ rows
    → all_at_most saved_mark seen ≡ may_forget (kept_so base base_mark performed mark saved saved_mark incarnation rows ops)
tells base base_mark performed seen mark saved saved_mark incarnation rows ops same all few =
    ap (all_at_most saved_mark) same
    ∙ sym (all_reversed saved_mark performed)
    ∙ forgets (kept_so base base_mark performed mark saved saved_mark incarnation rows ops)
    (omega (arith, all, length-reverse performed, length-reverse (take saved performed), length-take-le saved performed (omega (arith, all)))) few
