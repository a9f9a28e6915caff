-- What a store that has forgotten some of its oldest operations still says.
use Rattle.std.proofs.Common.{
  arith,
  ◌≡◌,
  ℕ,
  ◌+◌,
  ◌<◌,
  ◌≤◌,
  Bool,
  true,
  false,
  if◌then◌else◌,
  nat_lt,
  nat_le,
  List,
  [],
  ◌∷◌,
  ◌++◌,
  length,
  sym,
  refl,
  ap,
  subst,
  ◌∙◌,
  inl,
  inr,
}
use Rattle.std.specs.Prelude.{Option, Some, None, ◌==◌, ◌&&◌, ◌||◌}
use Rattle.std.proofs.lemmas.Bool.{cond-true, cond-false, cases_lt}
use Rattle.std.proofs.lemmas.Bool.Decides.{nat_tests}
use Rattle.std.proofs.lemmas.List.{length-append}
use Rattle.access_slots.specs.declared.slot.Record.{Record}
use Rattle.access_slots.specs.declared.op.Op.{Op}
use Rattle.access_slots.specs.declared.op.Said.{Said}
use Rattle.access_slots.specs.declared.op.Reply.{Reply}
use Rattle.access_slots.specs.declared.op.Wire.{Wire}
use Rattle.access_slots.specs.Locks.{record_eq, target}
use Rattle.data_component.specs.Performed.{Performed, RecordValue, left, value_in, counted, said_to, count, answer, has_room, said_under, all_at_most}
use Rattle.data_component.specs.Sorted.{Rows, row_of}
use Rattle.data_component.specs.Store.{
  Store,
  Fate,
  IsOld,
  Again,
  Silent,
  New,
  raised,
  marked,
  fate_of_new,
  fate_above,
  fate,
  fate_of,
  reply_by,
  store_by,
  replied,
  performed,
  checkpointed,
  restarted,
  heard,
  may_forget,
  HasForgotten,
}
use Rattle.data_component.specs.Shortened.{lengthened, IsShortOf}

-- ---- numbers

both_true : (a b : Bool) → (a && b) ≡ true → (a ≡ true) × (b ≡ true)
both_true true true is = (refl, refl)
both_true true false is = absurd cc
both_true false true is = absurd cc
both_true false false is = absurd cc

other : (m n k : ℕ) → nat_le m k ≡ true → k < n → (m == n) ≡ false
other m n k low above = grind (arith, nat_tests)

-- no number above the mark is among those at or under it
none_under : (dropped : List Performed) (k n : ℕ) → all_at_most k dropped ≡ true → k < n → said_under dropped n ≡ None
none_under [] k n old above = refl
none_under (e ∷ dropped) k n old above =
    let both = both_true (nat_le e.0 k) (all_at_most k dropped) old in
    cond-false _ _ _ (other e.0 n k both.0 above) ∙ none_under dropped k n both.1 above

-- so it is looked up without them
under_same : (list dropped : List Performed) (k n : ℕ) → all_at_most k dropped ≡ true → k < n → said_under (list ++ dropped) n ≡ said_under list n
under_same [] dropped k n old above = none_under dropped k n old above
under_same (e ∷ list) dropped k n old above = ap (λ (x : Option Said). if e.0 == n then Some e.2 else x) (under_same list dropped k n old above)

-- ---- values

-- behind the rows that they left, a list says what it says behind the operations
values_same : (base short : Rows) (list dropped : List Performed) (r : Record) → row_of short r ≡ value_in base dropped r
    → value_in short list r ≡ value_in base (list ++ dropped) r
values_same base short [] dropped r same = same
values_same base short (e ∷ list) dropped r same =
    ap (λ (v : RecordValue). if record_eq (target e.1) r then left e.1 e.2 v else v) (values_same base short list dropped r same)

counts_same : (base short : Rows) (list dropped : List Performed) → length short ≡ count base dropped → count short list ≡ count base (list ++ dropped)
counts_same base short [] dropped same = same
counts_same base short (e ∷ list) dropped same = ap (counted e.1 e.2) (counts_same base short list dropped same)

answers_same : (base short : Rows) (list dropped : List Performed) (limit : ℕ) (redo : Bool) (o : Op)
    → row_of short (target o) ≡ value_in base dropped (target o) → length short ≡ count base dropped
    → answer (has_room limit redo short list) short list o ≡ answer (has_room limit redo base (list ++ dropped)) base (list ++ dropped) o
answers_same base short list dropped limit redo o value many =
    ap (λ (n : ℕ). said_to (redo || nat_lt n limit) (value_in short list (target o)) o) (counts_same base short list dropped many)
    ∙ ap (λ (v : RecordValue). said_to (has_room limit redo base (list ++ dropped)) v o) (values_same base short list dropped (target o) value)

-- ---- fates

-- what of the two is needed, but for the equation
pub record Shortens (s : Store) (base : Rows) (dropped : List Performed) : Type 0 where
  pub values : (r : Record) → row_of s.base r ≡ value_in base dropped r
  pub count : length s.base ≡ count base dropped
  pub old : all_at_most s.saved_mark dropped ≡ true
  pub low : s.saved_mark ≤ s.mark

shortens : (long short : Store) (is : IsShortOf long short) → Shortens short is.base is.dropped
shortens long short is = record { values = is.values; count = is.count; old = is.old; low = is.low }

room_true : (m k : ℕ) → m < k → nat_lt m k ≡ true
room_true m k less = grind (arith, nat_tests)

new_same : (s : Store) (base : Rows) (base_mark : ℕ) (dropped : List Performed) → Shortens s base dropped
    → length s.list + length dropped < s.ops → (redo : Bool) (o : Op)
    → fate_of_new s redo o ≡ fate_of_new (lengthened s base base_mark dropped) redo o
new_same s base base_mark dropped are room redo o =
    cond-true _ _ _ (room_true (length s.list) s.ops (omega (arith, room)))
    ∙ ap New (answers_same base s.base s.list dropped s.rows redo o (are.values (target o)) are.count)
    ∙ sym (cond-true _ _ _ (room_true (length (s.list ++ dropped)) s.ops (omega (arith, room, length-append s.list dropped))))

above_same : (found : Option Said) (s : Store) (base : Rows) (base_mark : ℕ) (dropped : List Performed) → Shortens s base dropped
    → length s.list + length dropped < s.ops → (redo : Bool) (o : Op)
    → fate_above found s redo o ≡ fate_above found (lengthened s base base_mark dropped) redo o
above_same None s base base_mark dropped are room redo o = new_same s base base_mark dropped are room redo o
above_same (Some said) s base base_mark dropped are room redo o = refl

le_true : (a b : ℕ) → a ≤ b → nat_le a b ≡ true
le_true a b below = grind (arith, nat_tests)

le_false : (a b : ℕ) → b < a → nat_le a b ≡ false
le_false a b above = grind (arith, nat_tests)

fate_same : (s : Store) (base : Rows) (base_mark : ℕ) (dropped : List Performed) → Shortens s base dropped
    → length s.list + length dropped < s.ops → (n : ℕ) (redo : Bool) (o : Op)
    → fate s n redo o ≡ fate (lengthened s base base_mark dropped) n redo o
fate_same s base base_mark dropped are room n redo o =
    elim (cases_lt s.mark n) [
      | inr low ↦ cond-true _ _ _ (le_true n s.mark low) ∙ sym (cond-true _ _ _ (le_true n s.mark low))
      | inl high ↦
          let low = are.low in
          let above : s.saved_mark < n = omega (arith, low, high) in
          cond-false _ _ _ (le_false n s.mark high)
          ∙ above_same (said_under s.list n) s base base_mark dropped are room redo o
          ∙ ap (λ (x : Option Said). fate_above x (lengthened s base base_mark dropped) redo o) (sym (under_same s.list dropped s.saved_mark n are.old above))
          ∙ sym (cond-false _ _ _ (le_false n s.mark high))
    ]

-- ---- the mark rises

raised_by : (b : Bool) (mark low_water : ℕ) → nat_le mark low_water ≡ b → mark ≤ (if b then low_water else mark)
raised_by true mark low_water is = grind (arith, nat_tests)
raised_by false mark low_water is = omega arith

raised_up : (mark low_water : ℕ) → mark ≤ raised mark low_water
raised_up mark low_water = raised_by (nat_le mark low_water) mark low_water refl

marked_shortens : (s : Store) (base : Rows) (dropped : List Performed) (low_water : ℕ) → Shortens s base dropped
    → Shortens (marked s low_water) base dropped
marked_shortens s base dropped low_water are =
    let low = are.low in
    record { values = are.values; count = are.count; old = are.old; low = omega (arith, low, raised_up s.mark low_water) }

-- ---- replies

reply_as_long : (s : Store) (base : Rows) (base_mark : ℕ) (dropped : List Performed) (n : ℕ) (f : Fate)
    → reply_by s n f ≡ reply_by (lengthened s base base_mark dropped) n f
reply_as_long s base base_mark dropped n IsOld = refl
reply_as_long s base base_mark dropped n (Again said) = refl
reply_as_long s base base_mark dropped n Silent = refl
reply_as_long s base base_mark dropped n (New said) = refl

reply_same : (s : Store) (base : Rows) (base_mark : ℕ) (dropped : List Performed) → Shortens s base dropped
    → length s.list + length dropped < s.ops → (w : Wire) → replied s w ≡ replied (lengthened s base base_mark dropped) w
reply_same s base base_mark dropped are room w =
    ap (λ (x : Option Reply). if s.incarnation == w.incarnation then x else None)
    (reply_as_long s base base_mark dropped w.number (fate_of s w)
    ∙ ap (reply_by (lengthened s base base_mark dropped) w.number)
    (fate_same (marked s w.low_water) base base_mark dropped (marked_shortens s base dropped w.low_water are) room w.number w.redo w.op))

pub replies_same : (long short : Store) → IsShortOf long short → length long.list < long.ops → (w : Wire) → replied short w ≡ replied long w
replies_same long short is room w =
    let inside : length (short.list ++ is.dropped) < short.ops = subst (λ (s : Store). length s.list < s.ops) is.is room in
    reply_same short is.base is.base_mark is.dropped (shortens long short is) (omega (arith, inside, length-append short.list is.dropped)) w
    ∙ ap (λ (s : Store). replied s w) (sym is.is)

-- ---- the stores behind

to_short : (s : Store) (base : Rows) (base_mark : ℕ) (dropped : List Performed) → Shortens s base dropped
    → IsShortOf (lengthened s base base_mark dropped) s
to_short s base base_mark dropped are =
    record { base = base; base_mark = base_mark; dropped = dropped; is = refl; values = are.values; count = are.count; old = are.old; low = are.low }

store_same : (s : Store) (base : Rows) (base_mark : ℕ) (dropped : List Performed) → Shortens s base dropped → (n : ℕ) (o : Op) (f : Fate)
    → IsShortOf (store_by (lengthened s base base_mark dropped) n o f) (store_by s n o f)
store_same s base base_mark dropped are n o IsOld = to_short s base base_mark dropped are
store_same s base base_mark dropped are n o (Again said) = to_short s base base_mark dropped are
store_same s base base_mark dropped are n o Silent = to_short s base base_mark dropped are
store_same s base base_mark dropped are n o (New said) =
    record { base = base; base_mark = base_mark; dropped = dropped; is = refl; values = are.values; count = are.count; old = are.old; low = are.low }

performed_by : (b : Bool) (s : Store) (base : Rows) (base_mark : ℕ) (dropped : List Performed) → Shortens s base dropped
    → length s.list + length dropped < s.ops → (w : Wire)
    → IsShortOf
    (if b then store_by (marked (lengthened s base base_mark dropped) w.low_water) w.number w.op (fate_of (lengthened s base base_mark dropped) w) else lengthened s base base_mark dropped)
    (if b then store_by (marked s w.low_water) w.number w.op (fate_of s w) else s)
performed_by false s base base_mark dropped are room w = to_short s base base_mark dropped are
performed_by true s base base_mark dropped are room w =
    let higher = marked_shortens s base dropped w.low_water are in
    subst (λ (f : Fate). IsShortOf (store_by (marked (lengthened s base base_mark dropped) w.low_water) w.number w.op f) (store_by (marked s w.low_water) w.number w.op (fate_of s w)))
    (fate_same (marked s w.low_water) base base_mark dropped higher room w.number w.redo w.op)
    (store_same (marked s w.low_water) base base_mark dropped higher w.number w.op (fate_of s w))

pub performed_short : (long short : Store) → IsShortOf long short → length long.list < long.ops → (w : Wire)
    → IsShortOf (performed long w) (performed short w)
performed_short long short is room w =
    let inside : length (short.list ++ is.dropped) < short.ops = subst (λ (s : Store). length s.list < s.ops) is.is room in
    subst (λ (s : Store). IsShortOf (performed s w) (performed short w)) (sym is.is)
    (performed_by (short.incarnation == w.incarnation) short is.base is.base_mark is.dropped (shortens long short is)
    (omega (arith, inside, length-append short.list is.dropped)) w)

pub checkpointed_short : (long short : Store) → IsShortOf long short → IsShortOf (checkpointed long) (checkpointed short)
checkpointed_short long short is =
    subst (λ (s : Store). IsShortOf (checkpointed s) (checkpointed short)) (sym is.is)
    (record { base = is.base; base_mark = is.base_mark; dropped = is.dropped; is = refl; values = is.values; count = is.count; old = higher; low = omega arith })
  where
    lift : (dropped : List Performed) (k m : ℕ) → k ≤ m → all_at_most k dropped ≡ true → all_at_most m dropped ≡ true
    lift [] k m up old = refl
    lift (e ∷ dropped) k m up old =
        let both = both_true (nat_le e.0 k) (all_at_most k dropped) old in
        rw (up_to e.0 k m both.0 up) (lift dropped k m up both.1)
      where
        up_to : (n k m : ℕ) → nat_le n k ≡ true → k ≤ m → nat_le n m ≡ true
        up_to n k m low up = grind (arith, nat_tests)

    higher : all_at_most short.mark is.dropped ≡ true
    higher = lift is.dropped short.saved_mark short.mark is.low is.old

pub restarted_short : (long short : Store) → IsShortOf long short → IsShortOf (restarted long) (restarted short)
restarted_short long short is =
    subst (λ (s : Store). IsShortOf (restarted s) (restarted short)) (sym is.is)
    (record { base = is.base; base_mark = is.base_mark; dropped = is.dropped; is = refl; values = is.values; count = is.count; old = is.old; low = omega arith })

heard_by : (b : Bool) (s : Store) (base : Rows) (base_mark : ℕ) (dropped : List Performed) (low_water : ℕ) → Shortens s base dropped
    → IsShortOf (if b then marked (lengthened s base base_mark dropped) low_water else lengthened s base base_mark dropped) (if b then marked s low_water else s)
heard_by false s base base_mark dropped low_water are = to_short s base base_mark dropped are
heard_by true s base base_mark dropped low_water are =
    to_short (marked s low_water) base base_mark dropped (marked_shortens s base dropped low_water are)

pub heard_short : (long short : Store) → IsShortOf long short → (incarnation low_water : ℕ) → IsShortOf (heard long incarnation low_water) (heard short incarnation low_water)
heard_short long short is incarnation low_water =
    subst (λ (s : Store). IsShortOf (heard s incarnation low_water) (heard short incarnation low_water)) (sym is.is)
    (heard_by (short.incarnation == incarnation) short is.base is.base_mark is.dropped low_water (shortens long short is))

-- ---- forgetting shortens

low_numbers : (a b c : Bool) → (a && b && c) ≡ true → c ≡ true
low_numbers a b c is = (both_true (a && b) c is).1

pub forgotten_short : (s t : Store) → may_forget s ≡ true → HasForgotten s t → IsShortOf s t
forgotten_short s t may has =
    subst (λ (x : Store). IsShortOf s x) (sym has.rest)
    (subst (λ (saved : List Performed). IsShortOf (record s { saved = saved }) (record s { base = t.base; base_mark = s.saved_mark; list = []; saved = [] })) (sym has.all)
    (record {
      base = s.base;
      base_mark = s.base_mark;
      dropped = s.list;
      is = refl;
      values = has.values;
      count = has.count;
      old = low_numbers (length s.saved == length s.list) (nat_le (count s.base s.list) s.rows) (all_at_most s.saved_mark s.list) may;
      low = has.low;
    }))
