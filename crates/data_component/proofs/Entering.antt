-- One entry more, and fewer, in a list of heads and values.
use Rattle.std.proofs.Common.{arith, ◌≡◌, ℕ, zero, suc, ◌+◌, ◌*◌, ◌<◌, ◌≤◌, nat_le, Bool}
use Rattle.std.proofs.Common.{List, [], ◌∷◌, ◌++◌, length, take, drop, map}
use Rattle.std.proofs.Common.{sym, refl, ap, ap₂, subst, ◌∙◌}
use Rattle.std.specs.Prelude.{Option, Some, None, slice_index_or, ◌&&◌}
use Rattle.std.proofs.lemmas.List.{length-append, length-take-le, take-append-drop, take-map, get_or_append_left}
use Rattle.access_slots.specs.declared.slot.Record.{Record}
use Rattle.access_slots.specs.declared.op.Op.{Op}
use Rattle.access_slots.specs.declared.op.Said.{Said}
use Rattle.access_slots.specs.Locks.{target}
use Rattle.access_slots.specs.Kinds.{op_of, op_value, IsOpAgain, said_of, said_value, IsSaidAgain}
use Rattle.access_slots.proofs.KindLemmas.{op_made, said_made}
use Rattle.data_component.specs.declared.entries.Head.{Head}
use Rattle.data_component.specs.Performed.{Performed as Entry, all_at_most}
use Rattle.data_component.specs.Listed.{Values, no_value, numbered, record_of, entry_of, entries_of, heads_at_most}
use Rattle.data_component.specs.Listed.{IsWithin, AllWithin, IsNumbered}

-- ---- values

append_nothing : {X : Type 0} (xs : List X) → xs ≡ xs ++ []
append_nothing [] = refl
append_nothing (x ∷ xs) = ap (λ ys. x ∷ ys) (append_nothing xs)

last_is : {X : Type 0} (xs : List X) (y d : X) → slice_index_or (xs ++ y ∷ []) (length xs) d ≡ y
last_is [] y d = refl
last_is (x ∷ xs) y d = last_is xs y d

pub one_more : (old new : Values) (v : List ℕ) (n : ℕ) → new ≡ old ++ v ∷ [] → n ≡ length new
    → IsNumbered old new (Some v) n
one_more old new v n is at = record {
  more = v ∷ [];
  is = is;
  few = omega arith;
  within = omega (arith, at);
  names = ap₂ numbered is (at ∙ ap length is ∙ count) ∙ last_is old v no_value;
}
  where
    count : length (old ++ v ∷ []) ≡ suc (length old)
    count = omega (arith, length-append old (v ∷ []))

pub none_more : (values : Values) (v : List ℕ) (n place : ℕ) (d : List ℕ) → n ≡ place + 1 → place < length values
    → slice_index_or values place d ≡ v → IsNumbered values values (Some v) n
none_more values v n place d at inside is = record {
  more = [];
  is = append_nothing values;
  few = omega arith;
  within = omega (arith, at, inside);
  names = ap (numbered values) suc_is ∙ same values place inside ∙ is;
}
  where
    suc_is : n ≡ suc place
    suc_is = omega (arith, at)

    same : (vs : Values) (i : ℕ) → i < length vs → slice_index_or vs i no_value ≡ slice_index_or vs i d
    same [] i inside = absurd (omega (arith, inside))
    same (x ∷ vs) zero inside = refl
    same (x ∷ vs) (suc i) inside = same vs i (omega (arith, inside))

pub no_value_more : (values : Values) → IsNumbered values values None 0
no_value_more values = record {
  more = [];
  is = append_nothing values;
  few = omega arith;
  within = omega arith;
  names = tt;
}

pub numbered_kept : (values more : Values) (n : ℕ) → n ≤ length values → numbered (values ++ more) n ≡ numbered values n
numbered_kept values more zero inside = refl
numbered_kept values more (suc i) inside = get_or_append_left values more no_value i (omega (arith, inside))

-- ---- entries

entry_kept : (values more : Values) (h : Head) → h.written ≤ length values → h.said ≤ length values
    → entry_of (values ++ more) h ≡ entry_of values h
entry_kept values more h written said =
    ap₂ (λ (v w : List ℕ). (h.number, op_of h.kind (record_of h) v, said_of h.told w))
    (numbered_kept values more h.written written) (numbered_kept values more h.said said)

pub entries_kept : (values more : Values) (place : ℕ) (heads : List Head) → AllWithin (length values) place heads
    → entries_of (values ++ more) heads ≡ entries_of values heads
entries_kept values more place [] all = refl
entries_kept values more place (h ∷ heads) all =
    ap₂ (λ (e : Entry) (es : List Entry). e ∷ es) (entry_kept values more h all.0.written all.0.said) (entries_kept values more (place + 1) heads all.1)

pub within_more : (n m place : ℕ) (heads : List Head) → n ≤ m → AllWithin n place heads → AllWithin m place heads
within_more n m place [] more all = tt
within_more n m place (h ∷ heads) more all = (
  record {
    written = (let at = all.0.written in omega (arith, at, more));
    said = (let at = all.0.said in omega (arith, at, more));
    written_early = all.0.written_early;
    said_early = all.0.said_early;
  },
  within_more n m (place + 1) heads more all.1,
)

within_pushed : (n place last : ℕ) (heads : List Head) (h : Head) → AllWithin n place heads → last ≡ place + length heads → IsWithin n last h
    → AllWithin n place (heads ++ h ∷ [])
within_pushed n place last [] h all at is = (subst (λ (k : ℕ). IsWithin n k h) (omega (arith, at)) is, tt)
within_pushed n place last (g ∷ heads) h all at is = (all.0, within_pushed n (place + 1) last heads h all.1 (omega (arith, at)) is)

map_append : {X Y : Type 0} (f : X → Y) (xs : List X) (y : X) → map f (xs ++ y ∷ []) ≡ map f xs ++ f y ∷ []
map_append f [] y = refl
map_append f (x ∷ xs) y = ap (λ ys. f x ∷ ys) (map_append f xs y)

longer : (old new more : Values) → new ≡ old ++ more → length old ≤ length new
longer old new more is = let count = ap length is in omega (arith, count, length-append old more)

at_most : (old new more : Values) → new ≡ old ++ more → length more ≤ 1 → length new ≤ length old + 1
at_most old new more is few = let count = ap length is in omega (arith, count, few, length-append old more)

pub pushed_items : (old mid new : Values) (heads behind : List Head) (h : Head) (o : Op) (a : Said)
    (told written : Option (List ℕ)) → AllWithin (length old) 0 heads
    → IsNumbered old mid told h.said → told ≡ said_value a → IsSaidAgain a h.told
    → IsNumbered mid new written h.written → written ≡ op_value o → IsOpAgain o h.kind → record_of h ≡ target o
    → behind ≡ heads ++ h ∷ [] → entries_of new behind ≡ entries_of old heads ++ (h.number, o, a) ∷ []
pushed_items old mid new heads behind h o a told written all said told_is a_again wrote written_is o_again named is =
    ap (entries_of new) is
    ∙ map_append (entry_of new) heads h
    ∙ ap₂ (λ (es : List Entry) (e : Entry). es ++ e ∷ []) before last
  where
    before : entries_of new heads ≡ entries_of old heads
    before =
        ap (λ (vs : Values). entries_of vs heads) wrote.is
        ∙ entries_kept mid wrote.more 0 heads
        (within_more (length old) (length mid) 0 heads (longer old mid said.more said.is) all)
        ∙ ap (λ (vs : Values). entries_of vs heads) said.is
        ∙ entries_kept old said.more 0 heads all

    said_is : said_of h.told (numbered new h.said) ≡ a
    said_is =
        ap (λ (vs : Values). said_of h.told (numbered vs h.said)) wrote.is
        ∙ ap (said_of h.told) (numbered_kept mid wrote.more h.said said.within)
        ∙ said_made a h.told told (numbered mid h.said) a_again told_is said.names

    op_is : op_of h.kind (record_of h) (numbered new h.written) ≡ o
    op_is = op_made o h.kind (record_of h) written (numbered new h.written) o_again named written_is wrote.names

    last : entry_of new h ≡ (h.number, o, a)
    last = ap₂ (λ (p : Op) (s : Said). (h.number, p, s)) op_is said_is

pub pushed_few : (old mid new : Values) (heads behind : List Head) (h : Head) (told written : Option (List ℕ))
    → length old ≤ 2 * length heads → IsNumbered old mid told h.said → IsNumbered mid new written h.written
    → behind ≡ heads ++ h ∷ [] → length new ≤ 2 * length behind
pushed_few old mid new heads behind h told written few said wrote is =
    let one = at_most old mid said.more said.is said.few in
    let two = at_most mid new wrote.more wrote.is wrote.few in
    let count = ap length is in
    omega (arith, few, one, two, count, length-append heads (h ∷ []))

pub pushed_within : (old mid new : Values) (heads behind : List Head) (h : Head) (told written : Option (List ℕ))
    → AllWithin (length old) 0 heads → length old ≤ 2 * length heads → IsNumbered old mid told h.said
    → IsNumbered mid new written h.written → behind ≡ heads ++ h ∷ [] → AllWithin (length new) 0 behind
pushed_within old mid new heads behind h told written all few said wrote is =
    let one = at_most old mid said.more said.is said.few in
    let two = at_most mid new wrote.more wrote.is wrote.few in
    let first = longer old mid said.more said.is in
    let then_more = longer mid new wrote.more wrote.is in
    let below = said.within in
    let inside = wrote.within in
    subst (λ (hs : List Head). AllWithin (length new) 0 hs) (sym is)
    (within_pushed (length new) 0 (length heads) heads h
    (within_more (length old) (length new) 0 heads (omega (arith, first, then_more)) all) (omega arith)
    (record {
      written = inside;
      said = omega (arith, below, then_more);
      written_early = omega (arith, inside, one, two, few);
      said_early = omega (arith, below, one, few);
    }))

-- ---- fewer

take_few : {X : Type 0} (j : ℕ) (xs : List X) → length (take j xs) ≤ j
take_few zero xs = omega arith
take_few (suc j) [] = omega arith
take_few (suc j) (x ∷ xs) = omega (arith, take_few j xs)

take_least : {X : Type 0} (n j : ℕ) (xs : List X) → n ≤ length xs → n ≤ j → n ≤ length (take j xs)
take_least n zero xs inside few = few
take_least n (suc j) [] inside few = inside
take_least zero (suc j) (x ∷ xs) inside few = omega arith
take_least (suc n) (suc j) (x ∷ xs) inside few = omega (arith, take_least n j xs (omega (arith, inside)) (omega (arith, few)))

within_cut : (n m place j : ℕ) (heads : List Head) → ((x : ℕ) → x ≤ n → x ≤ 2 * (place + j) → x ≤ m) → AllWithin n place heads
    → AllWithin m place (take j heads)
within_cut n m place zero heads fits all = tt
within_cut n m place (suc j) [] fits all = tt
within_cut n m place (suc j) (h ∷ heads) fits all = (
  record {
    written = fits h.written all.0.written (let early = all.0.written_early in omega (arith, early));
    said = fits h.said all.0.said (let early = all.0.said_early in omega (arith, early));
    written_early = all.0.written_early;
    said_early = all.0.said_early;
  },
  within_cut n m (place + 1) j heads (λ x a b. fits x a (omega (arith, b))) all.1,
)

pub cut_within : (values left : Values) (heads behind : List Head) (count : ℕ) → AllWithin (length values) 0 heads
    → left ≡ take (count * 2) values → behind ≡ take count heads → AllWithin (length left) 0 behind
cut_within values left heads behind count all cut is =
    rw (cut, is)
    (within_cut (length values) (length (take (count * 2) values)) 0 count heads (λ x inside few. take_least x (count * 2) values inside (omega (arith, few))) all)

pub cut_few : (values left : Values) (heads behind : List Head) (count : ℕ) → count ≤ length (entries_of values heads)
    → left ≡ take (count * 2) values → behind ≡ take count heads → length left ≤ 2 * length behind
cut_few values left heads behind count inside cut is =
    let some = ap length cut in
    let same = ap length is in
    omega (arith, some, same, take_few (count * 2) values, length-take-le count heads (omega (arith, inside, entries_count values heads)))
  where
    entries_count : (vs : Values) (hs : List Head) → length (entries_of vs hs) ≡ length hs
    entries_count vs [] = refl
    entries_count vs (h ∷ hs) = ap suc (entries_count vs hs)

pub cut_items : (values left : Values) (heads behind : List Head) (count : ℕ) → AllWithin (length values) 0 heads
    → left ≡ take (count * 2) values → behind ≡ take count heads → entries_of left behind ≡ take count (entries_of values heads)
cut_items values left heads behind count all cut is =
    ap₂ entries_of cut is
    ∙ sym (entries_kept (take (count * 2) values) (drop (count * 2) values) 0 (take count heads) (cut_within values (take (count * 2) values) heads (take count heads) count all refl refl))
    ∙ ap (λ (vs : Values). entries_of vs (take count heads)) (take-append-drop (count * 2) values)
    ∙ sym (take-map (entry_of values) count heads)

-- ---- numbers

pub all_numbers : (n : ℕ) (values : Values) (heads : List Head) → heads_at_most n heads ≡ all_at_most n (entries_of values heads)
all_numbers n values [] = refl
all_numbers n values (h ∷ heads) = ap (λ (b : Bool). nat_le h.number n && b) (all_numbers n values heads)

pub first_numbers : (n count : ℕ) (values : Values) (heads seen : List Head) → seen ≡ take count heads
    → heads_at_most n seen ≡ all_at_most n (take count (entries_of values heads))
first_numbers n count values heads seen is =
    ap (heads_at_most n) is ∙ all_numbers n values (take count heads) ∙ ap (all_at_most n) (sym (take-map (entry_of values) count heads))
