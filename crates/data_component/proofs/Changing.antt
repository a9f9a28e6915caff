-- Each operation on sorted rows.
use Rattle.std.proofs.Common.{arith, ◌≡◌, ℕ, zero, suc, ◌-◌, ◌<◌, ◌≤◌, Bool, true, false, if◌then◌else◌, List}
use Rattle.std.proofs.Common.{[], ◌∷◌, length, sym, refl, ap, ap₂, subst, ◌∙◌}
use Rattle.std.specs.Prelude.{Option, Some, None, slice_get, slice_set, slice_index_or}
use Rattle.std.specs.List.{insert, remove}
use Rattle.std.proofs.lemmas.Bool.{cond-true, cond-false}
use Rattle.std.proofs.lemmas.Option.{slice_get_past, slice_get-get_or, get_or_from_slice_get}
use Rattle.std.proofs.lemmas.List.{length-set}
use Rattle.access_slots.specs.declared.slot.Record.{Record}
use Rattle.access_slots.specs.declared.op.Op.{Op}
use Rattle.access_slots.specs.declared.op.Op.TheVariants.{Read, Insert, Update, Delete}
use Rattle.access_slots.specs.declared.op.Said.{Said}
use Rattle.access_slots.specs.declared.op.Said.TheVariants.{Value, Absent, Done, Duplicate, Missing, NoRoom}
use Rattle.access_slots.specs.Locks.{record_eq, record_less, target}
use Rattle.data_component.specs.Performed.{left, counted, said_to, said_to_read, said_to_insert, said_to_change}
use Rattle.data_component.specs.Sorted.{Rows, row_of, row_place, SortedRows, IsFoundAt, IsMissingAt}
use Rattle.data_component.specs.Joining.Performing.{Performs}
use Rattle.data_component.proofs.Finding.{length_inserted, value_at, find_at, place_of_key, sorted_inserted, find_inserted}
use Rattle.data_component.proofs.Finding.{sorted_set, find_set, sorted_removed, find_removed}
use Rattle.data_component.proofs.Orders.{records}

unchanged : (b : Bool) (o : Option (List ℕ)) → o ≡ (if b then o else o)
unchanged true o = refl
unchanged false o = refl

-- an operation that leaves the rows as they are
stays : (has_room : Bool) (rows : Rows) (o : Op) (said : Said)
    → said ≡ said_to has_room (row_of rows (target o)) o
    → ((was : Option (List ℕ)) → left o said was ≡ was) → counted o said (length rows) ≡ length rows → SortedRows rows
    → Performs has_room rows rows o said
stays has_room rows o said is same many sorted = record {
  answer = is;
  values = λ r. unchanged (record_eq (target o) r) (row_of rows r) ∙ ap (λ (w : Option (List ℕ)). if record_eq (target o) r then w else row_of rows r) (sym (same (row_of rows r)));
  count = sym many;
  sorted = sorted;
}

pub read_found : (has_room : Bool) (rows : Rows) (r : Record) (v : List ℕ) → row_of rows r ≡ Some v → SortedRows rows
    → Performs has_room rows rows (Read r) (Value v)
read_found has_room rows r v is sorted = stays has_room rows (Read r) (Value v) (ap said_to_read (sym is)) (λ was. refl) refl sorted

pub read_absent : (has_room : Bool) (rows : Rows) (r : Record) → row_of rows r ≡ None → SortedRows rows → Performs has_room rows rows (Read r) Absent
read_absent has_room rows r is sorted = stays has_room rows (Read r) Absent (ap said_to_read (sym is)) (λ was. refl) refl sorted

pub read_at : (has_room : Bool) (rows : Rows) (r : Record) (i : ℕ) (row : Record × List ℕ) → IsFoundAt rows r i → SortedRows rows
    → row ≡ slice_index_or rows i row → Performs has_room rows rows (Read r) (Value row.1)
read_at has_room rows r i row at sorted is =
    read_found has_room rows r row.1 (at.value row ∙ ap (λ (x : Record × List ℕ). Some x.1) (sym is)) sorted

pub read_missing : (has_room : Bool) (rows : Rows) (r : Record) (i : ℕ) → IsMissingAt rows r i → SortedRows rows
    → Performs has_room rows rows (Read r) Absent
read_missing has_room rows r i at sorted = read_absent has_room rows r at.missing sorted

pub insert_duplicate : (has_room : Bool) (rows : Rows) (r : Record) (v : List ℕ) (i : ℕ) → IsFoundAt rows r i
    → SortedRows rows → Performs has_room rows rows (Insert r v) Duplicate
insert_duplicate has_room rows r v i at sorted = stays has_room rows (Insert r v) Duplicate (ap (λ (o : Option (List
    ℕ)). said_to_insert o has_room) (sym (at.value (r, v)))) (λ was. refl) refl sorted

pub insert_no_room : (has_room : Bool) (rows : Rows) (r : Record) (v : List ℕ) (i : ℕ) → IsMissingAt rows r i
    → has_room ≡ false → SortedRows rows → Performs has_room rows rows (Insert r v) NoRoom
insert_no_room has_room rows r v i at full sorted = stays has_room rows (Insert r v) NoRoom (ap₂ (λ (o : Option (List
    ℕ)) (b : Bool). said_to_insert o b) (sym at.missing) (sym full)) (λ was. refl) refl sorted

pub update_missing : (has_room : Bool) (rows : Rows) (r : Record) (v : List ℕ) (i : ℕ) → IsMissingAt rows r i
    → SortedRows rows → Performs has_room rows rows (Update r v) Missing
update_missing has_room rows r v i at sorted = stays has_room rows (Update r v) Missing (ap said_to_change (sym at.missing)) (λ was. refl) refl sorted

pub delete_missing : (has_room : Bool) (rows : Rows) (r : Record) (i : ℕ) → IsMissingAt rows r i → SortedRows rows
    → Performs has_room rows rows (Delete r) Missing
delete_missing has_room rows r i at sorted = stays has_room rows (Delete r) Missing (ap said_to_change (sym at.missing)) (λ was. refl) refl sorted

inserted : (has_room : Bool) (rows : Rows) (r : Record) (v : List ℕ) → row_of rows r ≡ None → has_room ≡ true → SortedRows rows
    → Performs has_room rows (insert rows (row_place rows r) (r, v)) (Insert r v) (Done None)
inserted has_room rows r v is room sorted = record {
  answer = ap₂ (λ (o : Option (List ℕ)) (b : Bool). said_to_insert o b) (sym is) (sym room);
  values = λ q. find_inserted record_eq record_less records r q v rows;
  count = length_inserted rows (row_place rows r) (r, v);
  sorted = sorted_inserted record_eq record_less records r v rows is sorted;
}

pub insert_done : (has_room : Bool) (rows new : Rows) (r : Record) (v : List ℕ) (i : ℕ) → IsMissingAt rows r i
    → has_room ≡ true → SortedRows rows → new ≡ insert rows i (r, v)
    → Performs has_room rows new (Insert r v) (Done None)
insert_done has_room rows new r v i at room sorted is =
    subst (λ (xs : Rows). Performs has_room rows xs (Insert r v) (Done None)) (sym (is ∙ ap (λ (j : ℕ). insert rows j (r, v)) at.is)) (inserted has_room rows r v at.missing room sorted)

changed : (has_room : Bool) (rows : Rows) (r : Record) (v w : List ℕ) → row_of rows r ≡ Some w → SortedRows rows
    → Performs has_room rows (slice_set rows (row_place rows r) (r, v)) (Update r v) (Done (Some w))
changed has_room rows r v w is sorted = record {
  answer = ap said_to_change (sym is);
  values = λ q. find_set record_eq record_less records r q v w rows is sorted;
  count = length-set rows (row_place rows r) (r, v);
  sorted = sorted_set record_eq record_less records r v w rows is sorted;
}

pub update_done : (has_room : Bool) (rows new : Rows) (r : Record) (v w : List ℕ) (i : ℕ) (d : Record × List ℕ)
    → IsFoundAt rows r i → SortedRows rows → w ≡ (slice_index_or rows i d).1 → new ≡ slice_set rows i (r, v)
    → Performs has_room rows new (Update r v) (Done (Some w))
update_done has_room rows new r v w i d at sorted former is =
    subst (λ (xs : Rows). Performs has_room rows xs (Update r v) (Done (Some w))) (sym (is ∙ ap (λ (j : ℕ). slice_set rows j (r, v)) at.is))
    (changed has_room rows r v w (at.value d ∙ ap Some (sym former)) sorted)

-- a row that has a value under a record is the record's
own_key : (r : Record) (x : Record × List ℕ) → value_at record_eq record_less records (Some x) r ≡ Some x.1 → x.0 ≡ r
own_key r x is = by_test (record_eq x.0 r) refl
  where
    by_test : (b : Bool) → record_eq x.0 r ≡ b → x.0 ≡ r
    by_test true same = records.same x.0 r same
    by_test false other = absurd (let bad : None ≡ Some x.1 = sym (cond-false _ _ _ other) ∙ is in cc)

-- the row that stands where a record is found is the record's
pub found_key : (rows : Rows) (r : Record) (i : ℕ) (d : Record × List ℕ) → IsFoundAt rows r i → SortedRows rows → (slice_index_or rows i d).0 ≡ r
found_key rows r i d at sorted =
    let x = slice_index_or rows i d in
    let row : slice_get rows (row_place rows r) ≡ Some x = ap (slice_get rows) (sym at.is) ∙ slice_get-get_or rows i d at.inside in
    own_key r x (
    ap (λ (o : Option (Record × List ℕ)). value_at record_eq record_less records o r) (sym row)
    ∙ sym (find_at record_eq record_less records r rows sorted)
    ∙ at.value d)

-- the value alone is written, since the record stands there
pub update_put : (has_room : Bool) (rows new : Rows) (r : Record) (v : List ℕ) (i : ℕ) (row : Record × List ℕ)
    → IsFoundAt rows r i → SortedRows rows → row ≡ slice_index_or rows i row → new ≡ slice_set rows i (row.0, v)
    → Performs has_room rows new (Update r v) (Done (Some row.1))
update_put has_room rows new r v i row at sorted is set =
    let key : row.0 ≡ r = ap (λ (x : Record × List ℕ). x.0) is ∙ found_key rows r i row at sorted in
    update_done has_room rows new r v row.1 i row at sorted (ap (λ (x : Record × List ℕ). x.1) is) (set ∙ ap (λ (k : Record). slice_set rows i (k, v)) key)

length_removed : (rows : Rows) (i : ℕ) → i < length rows → length (remove rows i) ≡ length rows - 1
length_removed [] i inside = absurd (omega (arith, inside))
length_removed (x ∷ rows) zero inside = omega arith
length_removed (x ∷ rows) (suc i) inside = omega (arith, inside, length_removed rows i (omega (arith, inside)))

removed : (has_room : Bool) (rows : Rows) (r : Record) (w : List ℕ) → row_of rows r ≡ Some w → row_place rows r < length rows → SortedRows rows
    → Performs has_room rows (remove rows (row_place rows r)) (Delete r) (Done (Some w))
removed has_room rows r w is inside sorted = record {
  answer = ap said_to_change (sym is);
  values = λ q. find_removed record_eq record_less records r q w rows is sorted;
  count = length_removed rows (row_place rows r) inside;
  sorted = sorted_removed record_eq record_less records r w rows is sorted;
}

pub delete_done : (has_room : Bool) (rows new : Rows) (r : Record) (row : Record × List ℕ) (i : ℕ) → IsFoundAt rows r i
    → SortedRows rows → row ≡ slice_index_or rows i row → new ≡ remove rows i
    → Performs has_room rows new (Delete r) (Done (Some row.1))
delete_done has_room rows new r row i at sorted former is =
    let found : row_of rows r ≡ Some row.1 = at.value row ∙ ap (λ (x : Record × List ℕ). Some x.1) (sym former) in
    subst (λ (xs : Rows). Performs has_room rows xs (Delete r) (Done (Some row.1))) (sym (is ∙ ap (λ (j : ℕ). remove rows j) at.is))
    (removed has_room rows r row.1 found (subst (λ (j : ℕ). j < length rows) at.is at.inside) sorted)

-- ---- what stands at a record's place

seen : (o : Option (Record × List ℕ)) (rows : Rows) (r : Record) (i : ℕ) → SortedRows rows → i ≡ row_place rows r
    → slice_get rows i ≡ o → row_of rows r ≡ value_at record_eq record_less records o r
seen o rows r i sorted is stands =
    find_at record_eq record_less records r rows sorted
    ∙ ap (λ (p : Option (Record × List ℕ)). value_at record_eq record_less records p r) (ap (slice_get rows) (sym is) ∙ stands)

pub found_there : (rows : Rows) (r : Record) (i : ℕ) (d : Record × List ℕ) → SortedRows rows → i ≡ row_place rows r
    → i < length rows → record_eq (slice_index_or rows i d).0 r ≡ true → IsFoundAt rows r i
found_there rows r i d sorted at inside same =
    let stands = slice_get-get_or rows i d inside in
    record {
      inside = inside;
      is = at;
      value = λ e. seen (Some (slice_index_or rows i d)) rows r i sorted at stands ∙ cond-true _ _ _ same ∙ ap (λ (x :
          Record × List ℕ). Some x.1) (sym (get_or_from_slice_get rows i (slice_index_or rows i d) e stands));
    }

pub missing_there : (rows : Rows) (r : Record) (i : ℕ) (d : Record × List ℕ) → SortedRows rows → i ≡ row_place rows r
    → i < length rows → record_eq (slice_index_or rows i d).0 r ≡ false → IsMissingAt rows r i
missing_there rows r i d sorted at inside other = record {
  inside = omega (arith, inside);
  is = at;
  missing = seen (Some (slice_index_or rows i d)) rows r i sorted at (slice_get-get_or rows i d inside) ∙ cond-false _ _ _ other;
}

pub none_there : (rows : Rows) (r : Record) (i : ℕ) → SortedRows rows → i ≡ row_place rows r → i ≤ length rows
    → length rows ≤ i → IsMissingAt rows r i
none_there rows r i sorted is few past = record { inside = few; is = is; missing = seen None rows r i sorted is (slice_get_past rows i past) }

-- where the record's row stands is where it is found
pub hinted_there : (rows : Rows) (r : Record) (i : ℕ) (d : Record × List ℕ) → SortedRows rows → i < length rows
    → record_eq (slice_index_or rows i d).0 r ≡ true → IsFoundAt rows r i
hinted_there rows r i d sorted inside same =
    found_there rows r i d sorted (place_of_key record_eq record_less records r rows i d sorted inside (records.same _ _ same)) inside same
