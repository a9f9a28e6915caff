-- Data components that begin with records, one after another.
use Rattle.std.proofs.Common.{
  ◌≡◌,
  ◌≢◌,
  ◌++◌,
  ◌+◌,
  ◌<◌,
  ◌≤◌,
  ℕ,
  zero,
  suc,
  List,
  [],
  ◌∷◌,
  length,
  refl,
  sym,
  ap,
  subst,
  ◌∙◌,
  arith,
  inl,
  inr,
  append_assoc,
  length-append,
}
use Rattle.std.specs.Prelude.{Option, Some, None, slice_get, slice_set}
use Rattle.std.proofs.lemmas.Bool.{cases_lt}
use Rattle.std.proofs.lemmas.Grind.{flat_map-append}
use Rattle.std.proofs.lemmas.List.{append-nil}
use Rattle.std.proofs.lemmas.Option.{same_Some, none-some, slice_get_within}
use Rattle.data_component.specs.Sorted.{Rows}
use Rattle.data_component.specs.Store.{Store, begun_with, MayBeginWith}
use Rattle.data_component.specs.Beginning.{AreOf, IsBegunAt, joined, AreBegun}
use Rattle.data_component.specs.Joining.Begins.{BeginsIn}

-- the first n have begun, and the others are as they were; these rows are left
pub record AreBegunTo (rows rest : Rows) (mark n : ℕ) (olds news : List Store) : Type 0 where
  pub parts : List Rows
  pub many : length parts ≡ n
  pub all : joined parts ++ rest ≡ rows
  pub count : length news ≡ length olds
  pub before : (d : ℕ) (s : Store) → slice_get olds d ≡ Some s → d < n → IsBegunAt parts mark d s news
  pub still : (d : ℕ) (s : Store) → slice_get olds d ≡ Some s → n ≤ d → slice_get news d ≡ Some s

pub none_begun : (rows : Rows) (mark : ℕ) (olds : List Store) → AreBegunTo rows rows mark 0 olds olds
none_begun rows mark olds = record {
  parts = [];
  many = refl;
  all = refl;
  count = refl;
  before = λ d s at less. absurd (omega (arith, less));
  still = λ d s at few. at;
}

-- ---- one place in a list

get_front : {X : Type 0} (xs ys : List X) (k : ℕ) (x : X) → slice_get xs k ≡ Some x → slice_get (xs ++ ys) k ≡ Some x
get_front [] ys k x at = absurd (none-some x at)
get_front (y ∷ xs) ys zero x at = at
get_front (y ∷ xs) ys (suc k) x at = get_front xs ys k x at

get_last : {X : Type 0} (xs : List X) (n : ℕ) (x : X) → length xs ≡ n → slice_get (xs ++ x ∷ []) n ≡ Some x
get_last [] zero x is = refl
get_last [] (suc n) x is = absurd (omega (arith, is))
get_last (y ∷ xs) zero x is = absurd (omega (arith, is))
get_last (y ∷ xs) (suc n) x is = get_last xs n x (omega (arith, is))

set_count : (xs : List Store) (k : ℕ) (x : Store) → length (slice_set xs k x) ≡ length xs
set_count [] k x = refl
set_count (y ∷ xs) zero x = refl
set_count (y ∷ xs) (suc k) x = ap (λ (n : ℕ). suc n) (set_count xs k x)

set_same : (xs : List Store) (k : ℕ) (x y : Store) → slice_get xs k ≡ Some x → slice_get (slice_set xs k y) k ≡ Some y
set_same [] k x y at = absurd (none-some x at)
set_same (z ∷ xs) zero x y at = refl
set_same (z ∷ xs) (suc k) x y at = set_same xs k x y at

set_other : (xs : List Store) (k j : ℕ) (y : Store) → k ≢ j → slice_get (slice_set xs k y) j ≡ slice_get xs j
set_other [] k j y other = refl
set_other (z ∷ xs) zero zero y other = absurd (other refl)
set_other (z ∷ xs) zero (suc j) y other = refl
set_other (z ∷ xs) (suc k) zero y other = refl
set_other (z ∷ xs) (suc k) (suc j) y other = set_other xs k j y (λ is. other (ap (λ (n : ℕ). suc n) is))

there_is : (xs : List Store) (k : ℕ) → k < length xs → (x : Store) × (slice_get xs k ≡ Some x)
there_is [] k inside = absurd (omega (arith, inside))
there_is (x ∷ xs) zero inside = (x, refl)
there_is (x ∷ xs) (suc k) inside = there_is xs k (omega (arith, inside))

-- ---- one more

one_begun : (rows own rest : Rows) (mark n : ℕ) (olds news : List Store) (s : Store) → AreBegunTo rows (own ++ rest) mark n olds news
    → slice_get olds n ≡ Some s → AreOf n own → MayBeginWith own mark s
    → AreBegunTo rows rest mark (n + 1) olds (slice_set news n (begun_with own mark s))
one_begun rows own rest mark n olds news s are at of may = record {
  parts = are.parts ++ own ∷ [];
  many = (let many = are.many in omega (arith, many, length-append are.parts (own ∷ [])));
  all =
      ap (λ (r : Rows). r ++ rest) (flat_map-append (λ (r : Rows). r) are.parts (own ∷ []))
      ∙ (ap (λ (r : Rows). (joined are.parts ++ r) ++ rest) (append-nil own) ∙ (append_assoc (joined are.parts) own rest ∙ are.all));
  count = set_count news n (begun_with own mark s) ∙ are.count;
  before = λ d x there less. elim (cases_lt d n) [
    | inl low ↦
        let was = are.before d x there low in
        let other : n ≢ d = omega (arith, low) in
        record {
          own = was.own;
          part = get_front are.parts (own ∷ []) d was.own was.part;
          of = was.of;
          may = was.may;
          at = set_other news n d (begun_with own mark s) other ∙ was.at;
        }
    | inr up ↦
        let same : n ≡ d = omega (arith, less, up) in
        let one : s ≡ x = same_Some s x (sym at ∙ (ap (slice_get olds) same ∙ there)) in
        subst (λ (i : ℕ). IsBegunAt (are.parts ++ own ∷ []) mark i x (slice_set news n (begun_with own mark s))) same (record {
          own = own;
          part = get_last are.parts n own are.many;
          of = of;
          may = subst (MayBeginWith own mark) one may;
          at = set_same news n s (begun_with own mark s) (are.still n s at (omega arith)) ∙ ap (λ (y : Store). Some (begun_with own mark y)) one;
        })
  ];
  still = λ d x there few.
      let other : n ≢ d = omega (arith, few) in
      set_other news n d (begun_with own mark s) other ∙ are.still d x there (omega (arith, few));
}

pub one_more_begun : (rows own rest whole : Rows) (mark n : ℕ) (olds mids news : List Store) → AreBegunTo rows whole mark n olds mids → n < length olds
    → whole ≡ own ++ rest → AreOf n own → ((s : Store) → slice_get mids n ≡ Some s → BeginsIn own mark n s mids news)
    → AreBegunTo rows rest mark (n + 1) olds news
one_more_begun rows own rest whole mark n olds mids news are inside cut of begins =
    let s = there_is olds n inside in
    let b = begins s.0 (are.still n s.0 s.1 (omega arith)) in
    subst (AreBegunTo rows rest mark (n + 1) olds) (sym b.is)
    (one_begun rows own rest mark n olds mids s.0 (subst (λ (w : Rows). AreBegunTo rows w mark n olds mids) cut are) s.1 of b.may)

pub all_begun : (rows : Rows) (mark n : ℕ) (olds news : List Store) → n ≡ length olds → AreBegunTo rows [] mark n olds news → AreBegun rows mark olds news
all_begun rows mark n olds news all are = record {
  parts = are.parts;
  many = are.many ∙ all;
  all = sym (append-nil (joined are.parts)) ∙ are.all;
  count = are.count;
  each = λ d s at. are.before d s at (subst (λ (m : ℕ). d < m) (sym all) (slice_get_within olds d s at));
}

pub no_rows : (rows : Rows) → length rows ≡ 0 → rows ≡ []
no_rows [] none = refl
no_rows (row ∷ rows) none = absurd (omega (arith, none))
