-- Pairs sorted by their first part: one more, one changed, one less.
use Rattle.std.proofs.Common.{◌+◌, arith, ◌≡◌, ℕ, zero, suc, ◌<◌, ◌≤◌, Bool, true, false, cond, if◌then◌else◌, List, []}
use Rattle.std.proofs.Common.{◌∷◌, length, sym, refl, ap, subst, ◌∙◌, one-add}
use Rattle.std.specs.Prelude.{Option, Some, None, slice_get, slice_set, slice_index_or}
use Rattle.std.specs.List.{prefix_len, insert, remove, filter}
use Rattle.std.specs.List.Sorted.{IsPartitionedBy, IsPartitionPoint}
use Rattle.std.proofs.lemmas.Bool.{cond-true, cond-false}
use Rattle.data_component.specs.Sorted.{find, AllAbove, Sorted}

pub length_inserted : {X : Type 0} (xs : List X) (i : ℕ) (y : X) → length (insert xs i y) ≡ length xs + 1
length_inserted [] zero y = refl
length_inserted [] (suc i) y = refl
length_inserted (x ∷ xs) zero y = omega arith
length_inserted (x ∷ xs) (suc i) y = omega (arith, length_inserted xs i y)

-- an order of keys, and when two are equal
pub record IsOrder {K : Type 0} (eq less : K → K → Bool) : Type 0 where
  pub same : (a b : K) → eq a b ≡ true → a ≡ b
  pub itself : (a : K) → eq a a ≡ true
  pub apart : (a b : K) → less a b ≡ true → eq a b ≡ false
  pub turned : (a b : K) → eq a b ≡ eq b a
  pub trans : (a b c : K) → less a b ≡ true → less b c ≡ true → less a c ≡ true
  pub else_above : (a b : K) → less a b ≡ false → eq a b ≡ false → less b a ≡ true

-- keys that a test tells apart
told_apart : {K : Type 0} (eq less : K → K → Bool) → IsOrder eq less → (q : K → Bool) (a b : K) → (q a ≡ q b → ⊥) → eq a b ≡ false
told_apart eq less order q a b differ = by_test (eq a b) refl
  where
    by_test : (e : Bool) → eq a b ≡ e → eq a b ≡ false
    by_test false is = is
    by_test true is = absurd (differ (ap q (order.same a b is)))

not_below_itself : {K : Type 0} (eq less : K → K → Bool) → IsOrder eq less → (b : Bool) (k : K) → less k k ≡ b → less k k ≡ false
not_below_itself eq less order false k is = is
not_below_itself eq less order true k is = absurd (let twice = order.itself k in let apart = order.apart k k is in cc)

module _ {K V : Type 0} (eq less : K → K → Bool) (order : IsOrder eq less) where
  abbrev pub below : K → K × V → Bool
  below k x = less x.0 k

  -- how many keys are below this one, which is its place
  abbrev pub place : K → List (K × V) → ℕ
  place k xs = prefix_len (below k) xs

  -- what the pair has beside the key, if it is the key's
  abbrev pub value_at : Option (K × V) → K → Option V
  value_at None k = None
  value_at (Some x) k = if eq x.0 k then Some x.1 else None

  abbrev pub no_value : Option V
  no_value = None

  pub lower : (a b : K) (xs : List (K × V)) → less a b ≡ true → AllAbove less b xs → AllAbove less a xs
  lower a b [] is all = tt
  lower a b (x ∷ xs) is all = (order.trans a b x.0 is all.0, lower a b xs is all.1)

  none_above : (k : K) (xs : List (K × V)) → AllAbove less k xs → find eq xs k ≡ None
  none_above k [] all = refl
  none_above k (x ∷ xs) all = cond-false _ _ _ (order.turned x.0 k ∙ order.apart k x.0 all.0) ∙ none_above k xs all.1

  further : (k : K) (x : K × V) (xs : List (K × V)) → below k x ≡ true → place k (x ∷ xs) ≡ suc (place k xs)
  further k x xs is = cond-true _ _ _ is ∙ one-add (place k xs)

  here : (k : K) (x : K × V) (xs : List (K × V)) → below k x ≡ false → place k (x ∷ xs) ≡ 0
  here k x xs is = cond-false _ _ _ is

  -- where a pair isn't below the key and isn't the key's, all that come later are above it
  above : (k : K) (x : K × V) (xs : List (K × V)) → below k x ≡ false → eq x.0 k ≡ false → AllAbove less x.0 xs → AllAbove less k (x ∷ xs)
  above k x xs is other all = (order.else_above x.0 k is other, lower k x.0 xs (order.else_above x.0 k is other) all)

  -- ---- what is found

  here_or_not : (e : Bool) (k : K) (x : K × V) (xs : List (K × V)) → below k x ≡ false → eq x.0 k ≡ e → AllAbove less x.0 xs
      → (if e then Some x.1 else find eq xs k) ≡ (if e then Some x.1 else no_value)
  here_or_not true k x xs is same all = refl
  here_or_not false k x xs is other all = none_above k xs (above k x xs is other all).1

  find_choice : (b : Bool) (k : K) (x : K × V) (xs : List (K × V)) → below k x ≡ b → AllAbove less x.0 xs
      → find eq xs k ≡ value_at (slice_get xs (place k xs)) k
      → find eq (x ∷ xs) k ≡ value_at (slice_get (x ∷ xs) (place k (x ∷ xs))) k
  find_choice true k x xs is all later =
      cond-false _ _ _ (order.apart x.0 k is) ∙ later ∙ ap (λ (i : ℕ). value_at (slice_get (x ∷ xs) i) k) (sym (further k x xs is))
  find_choice false k x xs is all later =
      here_or_not (eq x.0 k) k x xs is refl all ∙ ap (λ (i : ℕ). value_at (slice_get (x ∷ xs) i) k) (sym (here k x xs is))

  pub find_at : (k : K) (xs : List (K × V)) → Sorted less xs → find eq xs k ≡ value_at (slice_get xs (place k xs)) k
  find_at k [] sorted = refl
  find_at k (x ∷ xs) sorted = find_choice (below k x) k x xs refl sorted.0 (find_at k xs sorted.1)

  -- ---- a key that stands somewhere stands at its place

  above_at : (a : K) (xs : List (K × V)) (i : ℕ) (d : K × V) → AllAbove less a xs → i < length xs → less a (slice_index_or xs i d).0 ≡ true
  above_at a [] i d all inside = absurd (omega (arith, inside))
  above_at a (x ∷ xs) zero d all inside = all.0
  above_at a (x ∷ xs) (suc i) d all inside = above_at a xs i d all.1 (omega (arith, inside))

  pub place_of_key : (k : K) (xs : List (K × V)) (i : ℕ) (d : K × V) → Sorted less xs → i < length xs → (slice_index_or xs i d).0 ≡ k → i ≡ place k xs
  place_of_key k [] i d sorted inside is = absurd (omega (arith, inside))
  place_of_key k (x ∷ xs) zero d sorted inside is =
      sym (here k x xs (subst (λ (m : K). less m k ≡ false) (sym is) (not_below_itself eq less order (less k k) k refl)))
  place_of_key k (x ∷ xs) (suc i) d sorted inside is =
      ap suc (place_of_key k xs i d sorted.1 (omega (arith, inside)) is)
      ∙ sym (further k x xs (subst (λ (m : K). less x.0 m ≡ true) is (above_at x.0 xs i d sorted.0 (omega (arith, inside)))))

  -- ---- a later pair keeps behind a lesser one

  kept_apart : (a b : Bool) (k m : K) (x : K × V) (o p : Option V) → eq x.0 m ≡ a → eq k m ≡ b → less x.0 k ≡ true
      → (if a then Some x.1 else (if b then o else p)) ≡ (if b then o else (if a then Some x.1 else p))
  kept_apart true true k m x o p one two is = absurd (
      let same = order.same k m two in
      let twice : eq x.0 k ≡ true = subst (λ (n : K). eq x.0 n ≡ true) (sym same) one in
      let bad : true ≡ false = sym twice ∙ order.apart x.0 k is in
      cc)
  kept_apart true false k m x o p one two is = refl
  kept_apart false true k m x o p one two is = refl
  kept_apart false false k m x o p one two is = refl

  -- ---- one more

  all_inserted : (a : K) (xs : List (K × V)) (i : ℕ) (y : K × V) → AllAbove less a xs → less a y.0 ≡ true → AllAbove less a (insert xs i y)
  all_inserted a [] zero y all is = (is, tt)
  all_inserted a [] (suc i) y all is = (is, tt)
  all_inserted a (x ∷ xs) zero y all is = (is, all)
  all_inserted a (x ∷ xs) (suc i) y all is = (all.0, all_inserted a xs i y all.1 is)

  other_key : (k : K) (x : K × V) (xs : List (K × V)) → find eq (x ∷ xs) k ≡ None → eq x.0 k ≡ false
  other_key k x xs none = by_test (eq x.0 k) refl
    where
      by_test : (b : Bool) → eq x.0 k ≡ b → eq x.0 k ≡ false
      by_test false is = is
      by_test true is = absurd (let bad : Some x.1 ≡ None = sym (cond-true _ _ _ is) ∙ none in cc)

  sorted_choice : (b : Bool) (k : K) (v : V) (x : K × V) (xs : List (K × V)) → below k x ≡ b → find eq (x ∷ xs) k ≡ None → Sorted less (x ∷ xs)
      → (find eq xs k ≡ None → Sorted less (insert xs (place k xs) (k, v))) → Sorted less (insert (x ∷ xs) (place k (x ∷ xs)) (k, v))
  sorted_choice true k v x xs is none sorted later =
      let rest : find eq xs k ≡ None = sym (cond-false _ _ _ (order.apart x.0 k is)) ∙ none in
      subst (λ (i : ℕ). Sorted less (insert (x ∷ xs) i (k, v))) (sym (further k x xs is)) (all_inserted x.0 xs (place k xs) (k, v) sorted.0 is, later rest)
  sorted_choice false k v x xs is none sorted later =
      subst (λ (i : ℕ). Sorted less (insert (x ∷ xs) i (k, v))) (sym (here k x xs is)) (above k x xs is (other_key k x xs none) sorted.0, sorted)

  pub sorted_inserted : (k : K) (v : V) (xs : List (K × V)) → find eq xs k ≡ None → Sorted less xs → Sorted less (insert xs (place k xs) (k, v))
  sorted_inserted k v [] none sorted = (tt, tt)
  sorted_inserted k v (x ∷ xs) none sorted = sorted_choice (below k x) k v x xs refl none sorted (λ rest. sorted_inserted k v xs rest sorted.1)

  inserted_choice : (b : Bool) (k m : K) (v : V) (x : K × V) (xs : List (K × V)) → below k x ≡ b
      → find eq (insert xs (place k xs) (k, v)) m ≡ (if eq k m then Some v else find eq xs m)
      → find eq (insert (x ∷ xs) (place k (x ∷ xs)) (k, v)) m ≡ (if eq k m then Some v else find eq (x ∷ xs) m)
  inserted_choice true k m v x xs is later =
      ap (λ (i : ℕ). find eq (insert (x ∷ xs) i (k, v)) m) (further k x xs is)
      ∙ ap (λ (o : Option V). if eq x.0 m then Some x.1 else o) later
      ∙ kept_apart (eq x.0 m) (eq k m) k m x (Some v) (find eq xs m) refl refl is
  inserted_choice false k m v x xs is later = ap (λ (i : ℕ). find eq (insert (x ∷ xs) i (k, v)) m) (here k x xs is)

  pub find_inserted : (k m : K) (v : V) (xs : List (K × V)) → find eq (insert xs (place k xs) (k, v)) m ≡ (if eq k m then Some v else find eq xs m)
  find_inserted k m v [] = refl
  find_inserted k m v (x ∷ xs) = inserted_choice (below k x) k m v x xs refl (find_inserted k m v xs)

  -- ---- one changed, and one less

  all_set : (a : K) (xs : List (K × V)) (i : ℕ) (y : K × V) → AllAbove less a xs → less a y.0 ≡ true → AllAbove less a (slice_set xs i y)
  all_set a [] i y all is = tt
  all_set a (x ∷ xs) zero y all is = (is, all.1)
  all_set a (x ∷ xs) (suc i) y all is = (all.0, all_set a xs i y all.1 is)

  all_removed : (a : K) (xs : List (K × V)) (i : ℕ) → AllAbove less a xs → AllAbove less a (remove xs i)
  all_removed a [] zero all = tt
  all_removed a [] (suc i) all = tt
  all_removed a (x ∷ xs) zero all = all.1
  all_removed a (x ∷ xs) (suc i) all = (all.0, all_removed a xs i all.1)

  -- a pair that isn't below a key that is found is the key's
  own_key : (e : Bool) (k : K) (w : V) (x : K × V) (xs : List (K × V)) → eq x.0 k ≡ e → below k x ≡ false
      → AllAbove less x.0 xs → find eq (x ∷ xs) k ≡ Some w → x.0 ≡ k
  own_key true k w x xs same is all found = order.same x.0 k same
  own_key false k w x xs other is all found = absurd (
      let bad : None ≡ Some w = sym (cond-false _ _ _ other ∙ none_above k xs (above k x xs is other all).1) ∙ found in
      cc)

  found_later : (k : K) (w : V) (x : K × V) (xs : List (K × V)) → below k x ≡ true → find eq (x ∷ xs) k ≡ Some w → find eq xs k ≡ Some w
  found_later k w x xs is found = sym (cond-false _ _ _ (order.apart x.0 k is)) ∙ found

  set_choice : (b : Bool) (k : K) (v w : V) (x : K × V) (xs : List (K × V)) → below k x ≡ b → find eq (x ∷ xs) k ≡ Some w → Sorted less (x ∷ xs)
      → (find eq xs k ≡ Some w → Sorted less (slice_set xs (place k xs) (k, v))) → Sorted less (slice_set (x ∷ xs) (place k (x ∷ xs)) (k, v))
  set_choice true k v w x xs is found sorted later =
      subst (λ (i : ℕ). Sorted less (slice_set (x ∷ xs) i (k, v))) (sym (further k x xs is)) (all_set x.0 xs (place k xs) (k, v) sorted.0 is, later (found_later k w x xs is found))
  set_choice false k v w x xs is found sorted later =
      subst (λ (i : ℕ). Sorted less (slice_set (x ∷ xs) i (k, v))) (sym (here k x xs is))
      (subst (λ (n : K). AllAbove less n xs) (own_key (eq x.0 k) k w x xs refl is sorted.0 found) sorted.0, sorted.1)

  pub sorted_set : (k : K) (v w : V) (xs : List (K × V)) → find eq xs k ≡ Some w → Sorted less xs → Sorted less (slice_set xs (place k xs) (k, v))
  sorted_set k v w [] found sorted = tt
  sorted_set k v w (x ∷ xs) found sorted = set_choice (below k x) k v w x xs refl found sorted (λ f. sorted_set k v w xs f sorted.1)

  same_head : (e : Bool) (k m : K) (x : K × V) (o p : Option V) → eq k m ≡ e → x.0 ≡ k
      → (if e then o else p) ≡ (if e then o else (if eq x.0 m then Some x.1 else p))
  same_head true k m x o p is same = refl
  same_head false k m x o p is same = sym (cond-false _ _ _ (subst (λ (n : K). eq n m ≡ false) (sym same) is))

  set_found : (b : Bool) (k m : K) (v w : V) (x : K × V) (xs : List (K × V)) → below k x ≡ b → find eq (x ∷ xs) k ≡ Some w → AllAbove less x.0 xs
      → (find eq xs k ≡ Some w → find eq (slice_set xs (place k xs) (k, v)) m ≡ (if eq k m then Some v else find eq xs m))
      → find eq (slice_set (x ∷ xs) (place k (x ∷ xs)) (k, v)) m ≡ (if eq k m then Some v else find eq (x ∷ xs) m)
  set_found true k m v w x xs is found all later =
      ap (λ (i : ℕ). find eq (slice_set (x ∷ xs) i (k, v)) m) (further k x xs is)
      ∙ ap (λ (o : Option V). if eq x.0 m then Some x.1 else o) (later (found_later k w x xs is found))
      ∙ kept_apart (eq x.0 m) (eq k m) k m x (Some v) (find eq xs m) refl refl is
  set_found false k m v w x xs is found all later =
      ap (λ (i : ℕ). find eq (slice_set (x ∷ xs) i (k, v)) m) (here k x xs is)
      ∙ same_head (eq k m) k m x (Some v) (find eq xs m) refl (own_key (eq x.0 k) k w x xs refl is all found)

  pub find_set : (k m : K) (v w : V) (xs : List (K × V)) → find eq xs k ≡ Some w → Sorted less xs
      → find eq (slice_set xs (place k xs) (k, v)) m ≡ (if eq k m then Some v else find eq xs m)
  find_set k m v w [] found sorted = absurd (let bad : None ≡ Some w = found in cc)
  find_set k m v w (x ∷ xs) found sorted = set_found (below k x) k m v w x xs refl found sorted.0 (λ f. find_set k m v w xs f sorted.1)

  removed_choice : (b : Bool) (k : K) (w : V) (x : K × V) (xs : List (K × V)) → below k x ≡ b → find eq (x ∷ xs) k ≡ Some w → Sorted less (x ∷ xs)
      → (find eq xs k ≡ Some w → Sorted less (remove xs (place k xs))) → Sorted less (remove (x ∷ xs) (place k (x ∷ xs)))
  removed_choice true k w x xs is found sorted later =
      subst (λ (i : ℕ). Sorted less (remove (x ∷ xs) i)) (sym (further k x xs is)) (all_removed x.0 xs (place k xs) sorted.0, later (found_later k w x xs is found))
  removed_choice false k w x xs is found sorted later = subst (λ (i : ℕ). Sorted less (remove (x ∷ xs) i)) (sym (here k x xs is)) sorted.1

  pub sorted_removed : (k : K) (w : V) (xs : List (K × V)) → find eq xs k ≡ Some w → Sorted less xs → Sorted less (remove xs (place k xs))
  sorted_removed k w [] found sorted = tt
  sorted_removed k w (x ∷ xs) found sorted = removed_choice (below k x) k w x xs refl found sorted (λ f. sorted_removed k w xs f sorted.1)

  gone_choice : (e : Bool) (k m : K) (x : K × V) (xs : List (K × V)) → eq k m ≡ e → x.0 ≡ k → AllAbove less x.0 xs
      → find eq xs m ≡ (if e then no_value else (if eq x.0 m then Some x.1 else find eq xs m))
  gone_choice true k m x xs is same all = none_above m xs (subst (λ (n : K). AllAbove less n xs) (same ∙ order.same k m is) all)
  gone_choice false k m x xs is same all = same_head false k m x no_value (find eq xs m) is same

  removed_found : (b : Bool) (k m : K) (w : V) (x : K × V) (xs : List (K × V)) → below k x ≡ b → find eq (x ∷ xs) k ≡ Some w → AllAbove less x.0 xs
      → (find eq xs k ≡ Some w → find eq (remove xs (place k xs)) m ≡ (if eq k m then no_value else find eq xs m))
      → find eq (remove (x ∷ xs) (place k (x ∷ xs))) m ≡ (if eq k m then no_value else find eq (x ∷ xs) m)
  removed_found true k m w x xs is found all later =
      ap (λ (i : ℕ). find eq (remove (x ∷ xs) i) m) (further k x xs is)
      ∙ ap (λ (o : Option V). if eq x.0 m then Some x.1 else o) (later (found_later k w x xs is found))
      ∙ kept_apart (eq x.0 m) (eq k m) k m x no_value (find eq xs m) refl refl is
  removed_found false k m w x xs is found all later =
      ap (λ (i : ℕ). find eq (remove (x ∷ xs) i) m) (here k x xs is)
      ∙ gone_choice (eq k m) k m x xs refl (own_key (eq x.0 k) k w x xs refl is all found) all

  pub find_removed : (k m : K) (w : V) (xs : List (K × V)) → find eq xs k ≡ Some w → Sorted less xs
      → find eq (remove xs (place k xs)) m ≡ (if eq k m then no_value else find eq xs m)
  find_removed k m w [] found sorted = absurd (let bad : None ≡ Some w = found in cc)
  find_removed k m w (x ∷ xs) found sorted = removed_found (below k x) k m w x xs refl found sorted.0 (λ f. find_removed k m w xs f sorted.1)

  -- ---- the place, searched for

  all_below : (k a : K) (xs : List (K × V)) (j : ℕ) (d : K × V) → AllAbove less a xs → j < length xs
      → below k (slice_index_or xs j d) ≡ true → less a k ≡ true
  all_below k a [] j d all inside is = absurd (omega (arith, inside))
  all_below k a (x ∷ xs) zero d all inside is = order.trans a x.0 k all.0 is
  all_below k a (x ∷ xs) (suc j) d all inside is = all_below k a xs j d all.1 (omega (arith, inside)) is

  by_places : (k : K) (x : K × V) (xs : List (K × V)) → AllAbove less x.0 xs → IsPartitionedBy (below k) xs
      → (i j : ℕ) (d : K × V) → i ≤ j → j < length (x ∷ xs) → below k (slice_index_or (x ∷ xs) j d) ≡ true → below k (slice_index_or (x ∷ xs) i d) ≡ true
  by_places k x xs all later zero zero d few inside is = is
  by_places k x xs all later zero (suc j) d few inside is = all_below k x.0 xs j d all (omega (arith, inside)) is
  by_places k x xs all later (suc i) zero d few inside is = absurd (omega (arith, few))
  by_places k x xs all later (suc i) (suc j) d few inside is = later i j d (omega (arith, few)) (omega (arith, inside)) is

  pub partitioned : (k : K) (xs : List (K × V)) → Sorted less xs → IsPartitionedBy (below k) xs
  partitioned k [] sorted = λ i j d few inside is. absurd (omega (arith, inside))
  partitioned k (x ∷ xs) sorted = by_places k x xs sorted.0 (partitioned k xs sorted.1)

  point_choice : (b : Bool) (k : K) (x : K × V) (xs : List (K × V)) (i : ℕ) → below k x ≡ b → i ≤ length (x ∷ xs)
      → IsPartitionPoint (λ y. below k y ≡ true) (λ y. below k y ≡ false) (x ∷ xs) i
      → ((j : ℕ) → j ≤ length xs → IsPartitionPoint (λ y. below k y ≡ true) (λ y. below k y ≡ false) xs j → j ≡ place k xs) → i ≡ place k (x ∷ xs)
  point_choice true k x xs zero is few point later = absurd (
      let bad : true ≡ false = sym is ∙ point.1 0 x (omega arith) (omega arith) in
      cc)
  point_choice true k x xs (suc i) is few point later =
      ap suc (later i (omega (arith, few)) (λ j d low high. point.0 (suc j) d (omega arith) (omega (arith, high)), λ j d low high. point.1 (suc j) d (omega (arith, low)) (omega (arith, high))))
      ∙ sym (further k x xs is)
  point_choice false k x xs zero is few point later = sym (here k x xs is)
  point_choice false k x xs (suc i) is few point later = absurd (
      let bad : false ≡ true = sym is ∙ point.0 0 x (omega arith) (omega arith) in
      cc)

  pub place_is : (k : K) (xs : List (K × V)) (i : ℕ) → i ≤ length xs
      → IsPartitionPoint (λ y. below k y ≡ true) (λ y. below k y ≡ false) xs i → i ≡ place k xs
  place_is k [] i few point = omega (arith, few)
  place_is k (x ∷ xs) i few point = point_choice (below k x) k x xs i refl few point (λ j fewer p. place_is k xs j fewer p)

  -- ---- the last pair

  place_of_none : (k : K) (xs : List (K × V)) → length xs ≡ 0 → place k xs ≡ length xs
  place_of_none k [] none = refl
  place_of_none k (x ∷ xs) none = absurd (omega (arith, none))

  behind : (k : K) (x : K × V) (xs : List (K × V)) → below k x ≡ true → place k xs ≡ length xs → place k (x ∷ xs) ≡ length (x ∷ xs)
  behind k x xs is later = further k x xs is ∙ ap suc later

  -- where the last pair is below the key, all are
  pub place_past : (k : K) (xs : List (K × V)) (i : ℕ) (d : K × V) → Sorted less xs → i + 1 ≡ length xs
      → below k (slice_index_or xs i d) ≡ true → place k xs ≡ length xs
  place_past k [] i d sorted last is = refl
  place_past k (x ∷ xs) zero d sorted last is = behind k x xs is (place_of_none k xs (omega (arith, last)))
  place_past k (x ∷ xs) (suc i) d sorted last is =
      behind k x xs (all_below k x.0 xs i d sorted.0 (omega (arith, last)) is) (place_past k xs i d sorted.1 (omega (arith, last)) is)

  -- ---- those that pass a test

  all_or_not : (b : Bool) (a : K) (x : K × V) (xs : List (K × V)) → less a x.0 ≡ true → AllAbove less a xs → AllAbove less a (cond b (x ∷ xs) xs)
  all_or_not true a x xs is all = (is, all)
  all_or_not false a x xs is all = all

  all_passed : (p : K × V → Bool) (a : K) (xs : List (K × V)) → AllAbove less a xs → AllAbove less a (filter p xs)
  all_passed p a [] all = tt
  all_passed p a (x ∷ xs) all = all_or_not (p x) a x (filter p xs) all.0 (all_passed p a xs all.1)

  sorted_or_not : (b : Bool) (x : K × V) (xs : List (K × V)) → AllAbove less x.0 xs → Sorted less xs → Sorted less (cond b (x ∷ xs) xs)
  sorted_or_not true x xs all sorted = (all, sorted)
  sorted_or_not false x xs all sorted = sorted

  pub sorted_passed : (p : K × V → Bool) (xs : List (K × V)) → Sorted less xs → Sorted less (filter p xs)
  sorted_passed p [] sorted = tt
  sorted_passed p (x ∷ xs) sorted = sorted_or_not (p x) x (filter p xs) (all_passed p x.0 xs sorted.0) (sorted_passed p xs sorted.1)

  abbrev passing : (K → Bool) → List (K × V) → List (K × V)
  passing q xs = filter (λ x. q x.0) xs

  passed_or_not : (b : Bool) (q : K → Bool) (k : K) (x : K × V) (xs : List (K × V)) → q x.0 ≡ b → q k ≡ true
      → find eq (passing q xs) k ≡ find eq xs k → find eq (cond b (x ∷ passing q xs) (passing q xs)) k ≡ find eq (x ∷ xs) k
  passed_or_not true q k x xs is passes later = ap (λ (o : Option V). if eq x.0 k then Some x.1 else o) later
  passed_or_not false q k x xs is passes later =
      later ∙ sym (cond-false _ _ _ (told_apart eq less order q x.0 k (λ same. (let bad : false ≡ true = sym is ∙ same ∙ passes in cc))))

  -- a key that passes is found as before
  pub find_passed : (q : K → Bool) (k : K) (xs : List (K × V)) → q k ≡ true → find eq (passing q xs) k ≡ find eq xs k
  find_passed q k [] passes = refl
  find_passed q k (x ∷ xs) passes = passed_or_not (q x.0) q k x xs refl passes (find_passed q k xs passes)

  barred_or_not : (b : Bool) (q : K → Bool) (k : K) (x : K × V) (xs : List (K × V)) → q x.0 ≡ b → q k ≡ false
      → find eq (passing q xs) k ≡ None → find eq (cond b (x ∷ passing q xs) (passing q xs)) k ≡ None
  barred_or_not true q k x xs is barred later =
      cond-false _ _ _ (told_apart eq less order q x.0 k (λ same. (let bad : true ≡ false = sym is ∙ same ∙ barred in cc))) ∙ later
  barred_or_not false q k x xs is barred later = later

  -- and another isn't found
  pub find_barred : (q : K → Bool) (k : K) (xs : List (K × V)) → q k ≡ false → find eq (passing q xs) k ≡ None
  find_barred q k [] barred = refl
  find_barred q k (x ∷ xs) barred = barred_or_not (q x.0) q k x xs refl barred (find_barred q k xs barred)
