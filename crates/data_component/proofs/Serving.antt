-- What a data component keeps, one operation after another.
use Rattle.std.proofs.Common.{arith, ◌≡◌, ℕ, zero, suc, ◌+◌, ◌<◌, ◌≤◌, nat_lt, Bool, true, false, if◌then◌else◌, List}
use Rattle.std.proofs.Common.{[], ◌∷◌, ◌++◌, length, take, drop, sym, refl, ap, ap₂, subst, ◌∙◌}
use Rattle.std.specs.Prelude.{Option, Some, None, slice_get, slice_index_or, ◌==◌, ◌||◌, not, reverse}
use Rattle.std.specs.List.{insert, filter}
use Rattle.std.proofs.lemmas.Bool.{cond-true, cond-false}
use Rattle.std.proofs.lemmas.Bool.Decides.{nat_tests}
use Rattle.std.proofs.lemmas.Grind.{take_at_read}
use Rattle.std.proofs.lemmas.List.{length-append, length-take-le, length-reverse, reverse-append, take-append-drop}
use Rattle.access_slots.specs.Access.{is_no_room}
use Rattle.access_slots.specs.declared.op.Op.{Op}
use Rattle.access_slots.specs.declared.op.Op.TheVariants.{Read, Insert, Update, Delete}
use Rattle.access_slots.specs.declared.op.Said.{Said}
use Rattle.access_slots.specs.declared.op.Said.TheVariants.{Value, Absent, Done, Duplicate, Missing, NoRoom, Old}
use Rattle.access_slots.specs.Locks.{record_eq, target}
use Rattle.data_component.specs.Performed.{Performed, RecordValue, left, value_in, counted, said_to, count, answer, has_room, said_under, IsAnswerBehind, IsRight}
use Rattle.data_component.specs.Sorted.{Rows, Kept, SortedKept, place_of, kept_place}
use Rattle.data_component.specs.Joining.Performing.{Performs}
use Rattle.data_component.specs.Keeping.{AreRowsOf, AreKept, AllBelow, Keeps, said_by, said_in}
use Rattle.data_component.proofs.Finding.{length_inserted, find_inserted, sorted_inserted, sorted_passed, find_passed, find_barred}
use Rattle.data_component.proofs.Orders.{numbers, number_eq}

-- ---- rows

-- what is said to an operation is what the list gives
pub says : (room : Bool) (table new : Rows) (base : Rows) (list : List Performed) (o : Op) (said : Said) → AreRowsOf table base list
    → Performs room table new o said → said ≡ answer room base list o
says room table new base list o said rows does = does.answer ∙ ap (λ (v : Option (List ℕ)). said_to room v o) (rows.values (target o))

-- as long as fewer than the limit are present, and for one that is redone
pub says_within : (limit : ℕ) (redo room : Bool) (table new base : Rows) (list : List Performed) (o : Op) (said : Said) → AreRowsOf table base list
    → room ≡ (redo || nat_lt (length table) limit) → Performs room table new o said → said ≡ answer (has_room limit redo base list) base list o
says_within limit redo room table new base list o said rows is does =
    says room table new base list o said rows does
    ∙ ap (λ (b : Bool). answer b base list o) (is ∙ ap (λ (n : ℕ). redo || nat_lt n limit) rows.count)

pub more_rows : (room : Bool) (table new base : Rows) (list : List Performed) (n : ℕ) (o : Op) (said : Said)
    → AreRowsOf table base list → Performs room table new o said → AreRowsOf new base ((n, o, said) ∷ list)
more_rows room table new base list n o said rows does = record {
  sorted = does.sorted;
  values = λ r. does.values r ∙ ap (λ (v : Option (List ℕ)). if record_eq (target o) r then left o said v else v) (rows.values r);
  count = does.count ∙ ap (counted o said) rows.count;
}

-- an operation adds at most one record
counted_few : (o : Op) (said : Said) (n : ℕ) → counted o said n ≤ n + 1
counted_few (Read r) said n = omega arith
counted_few (Insert r v) (Value w) n = omega arith
counted_few (Insert r v) Absent n = omega arith
counted_few (Insert r v) (Done former) n = omega arith
counted_few (Insert r v) Duplicate n = omega arith
counted_few (Insert r v) Missing n = omega arith
counted_few (Insert r v) NoRoom n = omega arith
counted_few (Insert r v) Old n = omega arith
counted_few (Update r v) said n = omega arith
counted_few (Delete r) (Value w) n = omega arith
counted_few (Delete r) Absent n = omega arith
counted_few (Delete r) (Done former) n = omega arith
counted_few (Delete r) Duplicate n = omega arith
counted_few (Delete r) Missing n = omega arith
counted_few (Delete r) NoRoom n = omega arith
counted_few (Delete r) Old n = omega arith

-- so there are at most as many records as there were and operations
count_few : (base : Rows) (list : List Performed) → count base list ≤ length base + length list
count_few base [] = omega arith
count_few base (e ∷ list) = omega (arith, counted_few e.1 e.2 (count base list), count_few base list)

pub few_rows : (table base : Rows) (performed : List Performed) → AreRowsOf table base (reverse performed) → length table ≤ length base + length performed
few_rows table base performed rows = omega (arith, rows.count, count_few base (reverse performed), length-reverse performed)

pub few_behind : (table base : Rows) (performed : List Performed) (k : ℕ) → k ≤ length performed → AreRowsOf table base (reverse (take k performed))
    → length table ≤ length base + k
few_behind table base performed k inside rows = omega (arith, few_rows table base (take k performed) rows, length-take-le k performed inside)

-- ---- places

pushed : (e : Performed) (performed : List Performed) → reverse (performed ++ e ∷ []) ≡ e ∷ reverse performed
pushed e performed = reverse-append performed (e ∷ [])

get_left : {X : Type 0} (xs ys : List X) (k : ℕ) → k < length xs → slice_get (xs ++ ys) k ≡ slice_get xs k
get_left [] ys k lt = absurd (omega arith)
get_left (x ∷ xs) ys zero lt = refl
get_left (x ∷ xs) ys (suc k) lt = get_left xs ys k (omega arith)

get_last : {X : Type 0} (xs : List X) (y : X) → slice_get (xs ++ y ∷ []) (length xs) ≡ Some y
get_last [] y = refl
get_last (x ∷ xs) y = get_last xs y

-- what was said at a place stays there
said_on : (o : Option ℕ) (kept : Kept) (m : ℕ) (performed : List Performed) (e : Performed) → place_of kept m ≡ o
    → AllBelow (length performed) kept → said_in (performed ++ e ∷ []) o ≡ said_in performed o
said_on None kept m performed e is within = refl
said_on (Some place) kept m performed e is within = ap said_by (get_left performed (e ∷ []) place (within m place is))

abbrev pub kept_more : Kept → ℕ → ℕ → Kept
kept_more kept n place = insert kept (kept_place kept n) (n, place)

found_more : (b : Bool) (kept : Kept) (performed : List Performed) (n m mark : ℕ) (o : Op) (said : Said)
    → (n == m) ≡ b → AreKept kept mark performed → mark < m
    → said_in (performed ++ (n, o, said) ∷ []) (if n == m then Some (length performed) else place_of kept m) ≡ (if n == m then Some said else said_under (reverse performed) m)
found_more true kept performed n m mark o said is are above =
    ap (said_in (performed ++ (n, o, said) ∷ [])) (cond-true _ _ _ is) ∙ ap said_by (get_last performed (n, o, said)) ∙ sym (cond-true _ _ _ is)
found_more false kept performed n m mark o said is are above =
    ap (said_in (performed ++ (n, o, said) ∷ [])) (cond-false _ _ _ is)
    ∙ said_on (place_of kept m) kept m performed (n, o, said) refl are.within
    ∙ are.found m above
    ∙ sym (cond-false _ _ _ is)

within_more : (b : Bool) (kept : Kept) (n m place count : ℕ) → (n == m) ≡ b → AllBelow count kept
    → (if n == m then Some count else place_of kept m) ≡ Some place → place < count + 1
within_more true kept n m place count is within at = let same : Some count ≡ Some place = sym (cond-true _ _ _ is) ∙ at in some_below count place same
  where
    some_below : (c p : ℕ) → Some c ≡ Some p → p < c + 1
    some_below c p e = let f : c ≡ p = cc in omega (arith, f)
within_more false kept n m place count is within at = omega (arith, within m place (sym (cond-false _ _ _ is) ∙ at))

get_inside : {X : Type 0} (xs : List X) (k : ℕ) → k < length xs → slice_get xs k ≡ None → ⊥
get_inside [] k inside at = omega (arith, inside)
get_inside (x ∷ xs) zero inside at = let bad : Some x ≡ None = at in cc
get_inside (x ∷ xs) (suc k) inside at = get_inside xs k (omega (arith, inside)) at

-- a number above the mark that wasn't performed has no place
said_at : (o : Option ℕ) (kept : Kept) (performed : List Performed) (n : ℕ) → place_of kept n ≡ o
    → AllBelow (length performed) kept → said_in performed o ≡ None → place_of kept n ≡ None
said_at None kept performed n is within none = is
said_at (Some place) kept performed n is within none = absurd (stands (slice_get performed place) (within n place is) refl)
  where
    stands : (p : Option Performed) → place < length performed → slice_get performed place ≡ p → ⊥
    stands None inside at = get_inside performed place inside at
    stands (Some e) inside at = let bad : Some e.2 ≡ None = ap said_by (sym at) ∙ none in cc

no_place : (kept : Kept) (mark : ℕ) (performed : List Performed) (n : ℕ) → AreKept kept mark performed → mark < n
    → said_under (reverse performed) n ≡ None → place_of kept n ≡ None
no_place kept mark performed n are above fresh = said_at (place_of kept n) kept performed n refl are.within (are.found n above ∙ fresh)

-- ---- one operation more

pub more_kept : (kept : Kept) (mark : ℕ) (performed : List Performed) (n : ℕ) (o : Op) (said : Said)
    → AreKept kept mark performed → mark < n → said_under (reverse performed) n ≡ None
    → AreKept (kept_more kept n (length performed)) mark (performed ++ (n, o, said) ∷ [])
more_kept kept mark performed n o said are above fresh = record {
  sorted = sorted_inserted number_eq nat_lt numbers n (length performed) kept (no_place kept mark performed n are above fresh) are.sorted;
  within = λ m place is. subst (λ (c : ℕ). place < c) (sym (length-append performed ((n, o, said) ∷ [])))
      (within_more (n == m) kept n m place (length performed) refl are.within (sym (find_inserted number_eq nat_lt numbers n m (length performed) kept) ∙ is));
  few = omega (arith, are.few, length_inserted kept (kept_place kept n) (n, length performed), length-append performed ((n, o, said) ∷ []));
  found = λ m higher.
      ap (said_in (performed ++ (n, o, said) ∷ [])) (find_inserted number_eq nat_lt numbers n m (length performed) kept)
      ∙ found_more (n == m) kept performed n m mark o said refl are higher
      ∙ ap (λ (list : List Performed). said_under list m) (sym (pushed (n, o, said) performed));
}

-- a number at or under the mark needs no place
pub same_kept : (kept : Kept) (mark : ℕ) (performed : List Performed) (e : Performed) → AreKept kept mark performed
    → e.0 ≤ mark → AreKept kept mark (performed ++ e ∷ [])
same_kept kept mark performed e are low = record {
  sorted = are.sorted;
  within = λ m place is. omega (arith, are.within m place is, length-append performed (e ∷ []));
  few = omega (arith, are.few, length-append performed (e ∷ []));
  found = λ m above.
      said_on (place_of kept m) kept m performed e refl are.within
      ∙ are.found m above
      ∙ sym (ap (λ (list : List Performed). said_under list m) (pushed e performed) ∙ cond-false _ _ _ (lower e.0 m mark low above));
}
  where
    lower : (n m high : ℕ) → n ≤ high → high < m → (n == m) ≡ false
    lower n m high few above = grind (arith, nat_tests)

-- nor does one that is left out
pub left_out : (kept new : Kept) (mark : ℕ) (performed : List Performed) → AreKept kept mark performed
    → new ≡ filter (λ entry. nat_lt mark entry.0) kept → length new ≤ length kept → AreKept new mark performed
left_out kept new mark performed are is fewer = record {
  sorted = subst SortedKept (sym is) (sorted_passed number_eq nat_lt numbers (λ entry. nat_lt mark entry.0) kept are.sorted);
  within = λ m place found. are.within m place (back m place (nat_lt mark m) refl found);
  few = omega (arith, are.few, fewer);
  found = λ n above. ap (said_in performed) (passes n (above_true n above)) ∙ are.found n above;
}
  where
    above_true : (n : ℕ) → mark < n → nat_lt mark n ≡ true
    above_true n above = grind (arith, nat_tests)

    passes : (n : ℕ) → nat_lt mark n ≡ true → place_of new n ≡ place_of kept n
    passes n above = ap (λ (k : Kept). place_of k n) is ∙ find_passed number_eq nat_lt numbers (nat_lt mark) n kept above

    back : (m place : ℕ) (b : Bool) → nat_lt mark m ≡ b → place_of new m ≡ Some place → place_of kept m ≡ Some place
    back m place true above found = sym (passes m above) ∙ found
    back m place false low found = absurd (
        let none : place_of new m ≡ None = ap (λ (k : Kept). place_of k m) is ∙ find_barred number_eq nat_lt numbers (nat_lt mark) m kept low in
        let bad : None ≡ Some place = sym none ∙ found in
        cc)

pub higher_mark : (kept : Kept) (mark high : ℕ) (performed : List Performed) → mark ≤ high → AreKept kept mark performed → AreKept kept high performed
higher_mark kept mark high performed up are = record { sorted = are.sorted; within = are.within; few = are.few; found = λ n above. are.found n (omega (arith, up, above)) }

pub keeps_more : (redo room : Bool) (table new base : Rows) (performed : List Performed) (kept : Kept) (mark limit ops n : ℕ) (o : Op) (said : Said)
    → Keeps table base performed kept mark limit ops → mark < n → said_under (reverse performed) n ≡ None
    → length performed < ops → room ≡ (redo || nat_lt (length table) limit) → Performs room table new o said → Keeps new
    base (performed ++ (n, o, said) ∷ []) (kept_more kept n (length performed)) mark limit ops
keeps_more redo room table new base performed kept mark limit ops n o said was above fresh inside is does =
    let list = reverse performed in
    let more = sym (pushed (n, o, said) performed) in
    record {
      right = subst (IsRight limit base) more (fresh, (redo, says_within limit redo room table new base list o said was.rows is does), was.right);
      begins = was.begins;
      fits = was.fits;
      rows = subst (AreRowsOf new base) more (more_rows room table new base list n o said was.rows does);
      kept = more_kept kept mark performed n o said was.kept above fresh;
      few = omega (arith, inside, length-append performed ((n, o, said) ∷ []));
    }

-- ---- the list, from its oldest entry on

right_behind : (limit : ℕ) (base : Rows) (later list : List Performed) → IsRight limit base (later ++ list) → IsRight limit base list
right_behind limit base [] list right = right
right_behind limit base (e ∷ later) list right = right_behind limit base later list right.2

taken : (performed : List Performed) (k : ℕ) → reverse performed ≡ reverse (drop k performed) ++ reverse (take k performed)
taken performed k = ap reverse (sym (take-append-drop k performed)) ∙ reverse-append (take k performed) (drop k performed)

taken_more : (performed : List Performed) (k : ℕ) (d : Performed) → k < length performed
    → take (k + 1) performed ≡ take k performed ++ slice_index_or performed k d ∷ []
taken_more performed k d inside = (take_at_read performed k d inside).1

-- the next entry was fresh, and its answer is what the earlier ones give
pub next_is_right : (limit : ℕ) (base : Rows) (performed : List Performed) (k : ℕ) (d : Performed) → k < length performed
    → IsRight limit base (reverse performed) → IsRight limit base (slice_index_or performed k d ∷ reverse (take k performed))
next_is_right limit base performed k d inside right =
    let behind = right_behind limit base (reverse (drop (k + 1) performed)) (reverse (take (k + 1) performed)) (subst (IsRight limit base) (taken performed (k + 1)) right) in
    subst (IsRight limit base) (ap reverse (taken_more performed k d inside) ∙ pushed (slice_index_or performed k d) (take k performed)) behind

-- the oldest entries are right by themselves
pub right_cut : (limit k : ℕ) (base : Rows) (performed : List Performed) → IsRight limit base (reverse performed) → IsRight limit base (reverse (take k performed))
right_cut limit k base performed right =
    right_behind limit base (reverse (drop k performed)) (reverse (take k performed)) (subst (IsRight limit base) (taken performed k) right)

-- ---- as the code has it

pub keeps_next : (redo room : Bool) (table new base : Rows) (performed longer : List Performed) (kept more : Kept) (mark limit ops n : ℕ) (o : Op) (said : Said) (place : ℕ)
    → Keeps table base performed kept mark limit ops → mark < n → said_under (reverse performed) n ≡ None
    → length performed < ops → room ≡ (redo || nat_lt (length table) limit) → Performs room table new o said → longer ≡
    performed ++ (n, o, said) ∷ [] → more ≡ insert kept (kept_place kept n) (n, place) → place ≡ length performed →
    Keeps new base longer more mark limit ops
keeps_next redo room table new base performed longer kept more mark limit ops n o said place was above fresh inside is does grown put at =
    let whole = put ∙ ap (λ (i : ℕ). insert kept (kept_place kept n) (n, i)) at in
    subst (λ (l : List Performed). Keeps new base l more mark limit ops) (sym grown)
    (subst (λ (k : Kept). Keeps new base (performed ++ (n, o, said) ∷ []) k mark limit ops) (sym whole)
    (keeps_more redo room table new base performed kept mark limit ops n o said was above fresh inside is does))

-- an answer tells whether there was room, where that mattered
found_room : (room : Bool) (value : RecordValue) (o : Op) → said_to (not (is_no_room (said_to room value o))) value o ≡ said_to room value o
found_room room value (Read r) = refl
found_room true None (Insert r v) = refl
found_room false None (Insert r v) = refl
found_room true (Some w) (Insert r v) = refl
found_room false (Some w) (Insert r v) = refl
found_room room value (Update r v) = refl
found_room room value (Delete r) = refl

pub answers_again : (limit : ℕ) (base : Rows) (list : List Performed) (o : Op) (said : Said) → IsAnswerBehind limit base list o said
    → answer (not (is_no_room said)) base list o ≡ said
answers_again limit base list o said is =
    let room = has_room limit is.0 base list in
    ap (λ (s : Said). answer (not (is_no_room s)) base list o) is.1 ∙ found_room room (value_in base list (target o)) o ∙ sym is.1

-- the rows behind one more entry of the list
pub rows_next : (limit : ℕ) (again : Bool) (table new base : Rows) (performed : List Performed) (k : ℕ) (d : Performed) (said : Said)
    → k < length performed → IsRight limit base (reverse performed) → AreRowsOf table base (reverse (take k performed))
    → again ≡ not (is_no_room (slice_index_or performed k d).2) → Performs again table new (slice_index_or performed k d).1 said
    → AreRowsOf new base (reverse (take (k + 1) performed))
rows_next limit again table new base performed k d said inside right rows found does =
    let e = slice_index_or performed k d in
    let behind = reverse (take k performed) in
    let next = next_is_right limit base performed k d inside right in
    let same : said ≡ e.2
    = says again table new base behind e.1 said rows does ∙ ap (λ (b : Bool). answer b base behind e.1) found ∙ answers_again limit base behind e.1 e.2 next.1 in
    subst (AreRowsOf new base) (sym (ap reverse (taken_more performed k d inside) ∙ pushed e (take k performed)))
    (subst (λ (s : Said). AreRowsOf new base ((e.0, e.1, s) ∷ behind)) same (more_rows again table new base behind e.0 e.1 said rows does))

pub kept_next : (limit : ℕ) (base : Rows) (kept more : Kept) (mark : ℕ) (performed : List Performed) (k place n : ℕ) (d : Performed)
    → k < length performed → IsRight limit base (reverse performed) → AreKept kept mark (take k performed)
    → n ≡ (slice_index_or performed k d).0 → mark < n → more ≡ insert kept (kept_place kept n) (n, place) → place ≡ k → AreKept more mark (take (k + 1) performed)
kept_next limit base kept more mark performed k place n d inside right are number above put at =
    let e = slice_index_or performed k d in
    let next = next_is_right limit base performed k d inside right in
    let count : length (take k performed) ≡ k = length-take-le k performed (omega (arith, inside)) in
    let whole : more ≡ insert kept (kept_place kept e.0) (e.0, length (take k performed)) = put ∙ ap₂ (λ (m i : ℕ). insert kept (kept_place kept m) (m, i)) number (at ∙ sym count) in
    subst (λ (x : Kept). AreKept x mark (take (k + 1) performed)) (sym whole)
    (subst (λ (l : List Performed). AreKept (insert kept (kept_place kept e.0) (e.0, length (take k performed))) mark l) (sym (taken_more performed k d inside))
    (more_kept kept mark (take k performed) e.0 e.1 e.2 are (subst (λ (m : ℕ). mark < m) number above) next.0))

pub kept_still : (kept : Kept) (mark : ℕ) (performed : List Performed) (k n : ℕ) (d : Performed)
    → k < length performed → AreKept kept mark (take k performed) → n ≡ (slice_index_or performed k d).0 → n ≤ mark
    → AreKept kept mark (take (k + 1) performed)
kept_still kept mark performed k n d inside are number low =
    subst (λ (l : List Performed). AreKept kept mark l) (sym (taken_more performed k d inside))
    (same_kept kept mark (take k performed) (slice_index_or performed k d) are (subst (λ (m : ℕ). m ≤ mark) number low))

-- cut back to the oldest entries
pub keeps_cut : (table new base : Rows) (performed cut seen : List Performed) (kept more : Kept) (mark low limit ops saved : ℕ)
    → Keeps table base performed kept mark limit ops → saved ≤ length performed → cut ≡ take saved performed → seen ≡ cut
    → AreRowsOf new base (reverse seen) → AreKept more low seen → Keeps new base cut more low limit ops
keeps_cut table new base performed cut seen kept more mark low limit ops saved was inside is same rows are =
    let many : length cut ≡ saved = ap length is ∙ length-take-le saved performed inside in
    let few = was.few in
    record {
      right = subst (λ (l : List Performed). IsRight limit base (reverse l)) (sym is) (right_cut limit saved base performed was.right);
      begins = was.begins;
      fits = was.fits;
      rows = subst (λ (l : List Performed). AreRowsOf new base (reverse l)) same rows;
      kept = subst (λ (l : List Performed). AreKept more low l) same are;
      few = omega (arith, many, inside, few);
    }
