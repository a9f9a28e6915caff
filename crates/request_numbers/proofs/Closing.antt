-- Places of numbers: one more, one closed, all closed ones left out.
use Rattle.std.proofs.Common.{arith, ◌≡◌, ℕ, zero, suc, ◌+◌, ◌-◌, ◌<◌, ◌≤◌, Bool, true, false, not, cond, ◌||◌, ◌&&◌, ◌==◌, nat_lt, List}
use Rattle.std.proofs.Common.{[], ◌∷◌, ◌++◌, length, length-append, ◌/◌, sym, refl, ap, ap₂, subst, ◌∙◌, one-add}
use Rattle.std.specs.Prelude.{Option, Some, None, slice_get, slice_set, slice_index_or}
use Rattle.std.specs.List.{filter}
use Rattle.std.specs.List.Sorted.{IsPartitionedBy, IsPartitionPoint}
use Rattle.std.proofs.lemmas.Bool.{cond-true, cond-false, false≢true, eq-eqb, eqb-true, ne_eqb}
use Rattle.std.proofs.lemmas.Bool.Decides.{nat_tests}
use Rattle.request_numbers.specs.declared.numbers.Place.{Place}
use Rattle.request_numbers.specs.Given.{others, holds, Rising, low_water_of}
use Rattle.request_numbers.specs.LowWater.{IsLowWater}
use Rattle.request_numbers.specs.Places.{numbers_of, open_of, first_open, place_of, is_open_at, AreKept}
use Rattle.request_numbers.proofs.Pending.{rising_from, not_above, others_above, rising_more, one_less, low_water_is}

abbrev pub place : ℕ → Bool → Place
place n b = record { number = n; is_open = b }

abbrev closed : Place → Bool
closed p = not p.is_open

-- ---- what is open is given

kept_or_left : (b : Bool) (low n last : ℕ) (rest : List ℕ) → low < n → Rising n last rest → Rising low last (cond b (n ∷ rest) rest)
kept_or_left true low n last rest lt h = (lt, h)
kept_or_left false low n last rest lt h = rising_from low low last rest (omega arith) (rising_from n low last rest (omega (arith, lt)) h)

pub open_rising : (low last : ℕ) (ps : List Place) → Rising low last (numbers_of ps) → Rising low last (open_of ps)
open_rising low last [] h = h
open_rising low last (p ∷ ps) h = kept_or_left p.is_open low p.number last (open_of ps) h.0 (open_rising p.number last ps h.1)

counted : (b : Bool) (n : ℕ) (rest : List ℕ) → length (cond b (n ∷ rest) rest) ≤ 1 + length rest
counted true n rest = omega arith
counted false n rest = omega arith

pub open_few : (ps : List Place) → length (open_of ps) ≤ length ps
open_few [] = omega arith
open_few (p ∷ ps) = omega (arith, counted p.is_open p.number (open_of ps), open_few ps)

-- ---- one more

pub numbers_pushed : (ps : List Place) (p : Place) → numbers_of (ps ++ p ∷ []) ≡ numbers_of ps ++ p.number ∷ []
numbers_pushed [] p = refl
numbers_pushed (q ∷ ps) p = ap (λ (ns : List ℕ). q.number ∷ ns) (numbers_pushed ps p)

pushed_choice : (b : Bool) (n : ℕ) (xs ys zs : List ℕ) → xs ≡ ys ++ zs → cond b (n ∷ xs) xs ≡ cond b (n ∷ ys) ys ++ zs
pushed_choice true n xs ys zs is = ap (λ (ns : List ℕ). n ∷ ns) is
pushed_choice false n xs ys zs is = is

pub open_pushed : (ps : List Place) (n : ℕ) → open_of (ps ++ place n true ∷ []) ≡ open_of ps ++ n ∷ []
open_pushed [] n = refl
open_pushed (q ∷ ps) n = pushed_choice q.is_open q.number (open_of (ps ++ place n true ∷ [])) (open_of ps) (n ∷ []) (open_pushed ps n)

pub first_pushed : (ps : List Place) (n : ℕ) → first_open (ps ++ place n true ∷ []) ≡ first_open ps
first_pushed [] n = refl
first_pushed (q ∷ ps) n = ap (λ (m : ℕ). cond (closed q) (1 + m) 0) (first_pushed ps n)

-- ---- where a number is

abbrev below : ℕ → Place → Bool
below k p = nat_lt p.number k

above_at : (low last : ℕ) (ps : List Place) (i : ℕ) (d : Place) → Rising low last (numbers_of ps) → i < length ps → low < (slice_index_or ps i d).number
above_at low last [] i d h inside = absurd (omega (arith, inside))
above_at low last (p ∷ ps) zero d h inside = h.0
above_at low last (p ∷ ps) (suc i) d h inside = omega (arith, h.0, above_at p.number last ps i d h.1 (omega (arith, inside)))

by_places : (k last : ℕ) (p : Place) (ps : List Place) → Rising p.number last (numbers_of ps) → IsPartitionedBy (below k) ps → IsPartitionedBy (below k) (p ∷ ps)
by_places k last p ps h later zero zero d few inside is = is
by_places k last p ps h later zero (suc j) d few inside is =
    let far = above_at p.number last ps j d h (omega (arith, inside)) in
    grind (arith, nat_tests)
by_places k last p ps h later (suc i) zero d few inside is = absurd (omega (arith, few))
by_places k last p ps h later (suc i) (suc j) d few inside is = later i j d (omega (arith, few)) (omega (arith, inside)) is

pub partitioned : (k low last : ℕ) (ps : List Place) → Rising low last (numbers_of ps) → IsPartitionedBy (below k) ps
partitioned k low last [] h = λ i j d few inside is. absurd (omega (arith, inside))
partitioned k low last (p ∷ ps) h = by_places k last p ps h.1 (partitioned k p.number last ps h.1)

further : (k : ℕ) (p : Place) (ps : List Place) → below k p ≡ true → place_of k (p ∷ ps) ≡ suc (place_of k ps)
further k p ps is = cond-true _ _ _ is ∙ one-add (place_of k ps)

here : (k : ℕ) (p : Place) (ps : List Place) → below k p ≡ false → place_of k (p ∷ ps) ≡ 0
here k p ps is = cond-false _ _ _ is

abbrev IsPoint : ℕ → List Place → ℕ → Type 0
IsPoint k ps i = IsPartitionPoint (λ p. below k p ≡ true) (λ p. below k p ≡ false) ps i

point_choice : (b : Bool) (k : ℕ) (p : Place) (ps : List Place) (i : ℕ) → below k p ≡ b → i ≤ length (p ∷ ps) → IsPoint k (p ∷ ps) i
    → ((j : ℕ) → j ≤ length ps → IsPoint k ps j → j ≡ place_of k ps) → i ≡ place_of k (p ∷ ps)
point_choice true k p ps zero is few point later = absurd (
    let bad : true ≡ false = sym is ∙ point.1 0 p (omega arith) (omega arith) in
    cc)
point_choice true k p ps (suc i) is few point later =
    ap suc (later i (omega (arith, few)) (λ j d low high. point.0 (suc j) d (omega arith) (omega (arith, high)), λ j d low high. point.1 (suc j) d (omega (arith, low)) (omega (arith, high))))
    ∙ sym (further k p ps is)
point_choice false k p ps zero is few point later = sym (here k p ps is)
point_choice false k p ps (suc i) is few point later = absurd (
    let bad : true ≡ false = sym (point.0 0 p (omega arith) (omega arith)) ∙ is in
    cc)

pub place_is : (k : ℕ) (ps : List Place) (i : ℕ) → i ≤ length ps → IsPoint k ps i → i ≡ place_of k ps
place_is k [] i few point = omega (arith, few)
place_is k (p ∷ ps) i few point = point_choice (below k p) k p ps i refl few point (λ j fewer is. place_is k ps j fewer is)

-- ---- whether it is open

passed : (b : Bool) (k n : ℕ) (rest : List ℕ) → (n == k) ≡ false → holds k (cond b (n ∷ rest) rest) ≡ holds k rest
passed true k n rest other = ap (λ (x : Bool). x || holds k rest) other
passed false k n rest other = refl

met : (b e : Bool) (k n last : ℕ) (rest : List ℕ) → (n == k) ≡ e → k ≤ n → Rising n last rest → holds k (cond b (n ∷ rest) rest) ≡ (e && b)
met true true k n last rest is le h = ap (λ (x : Bool). x || holds k rest) is
met true false k n last rest is le h = ap (λ (x : Bool). x || holds k rest) is ∙ not_above k n last rest le h
met false true k n last rest is le h = not_above k n last rest le h
met false false k n last rest is le h = not_above k n last rest le h

open_choice : (b : Bool) (k last : ℕ) (p : Place) (ps : List Place) → below k p ≡ b → Rising p.number last (numbers_of ps)
    → holds k (open_of ps) ≡ is_open_at (slice_get ps (place_of k ps)) k
    → holds k (open_of (p ∷ ps)) ≡ is_open_at (slice_get (p ∷ ps) (place_of k (p ∷ ps))) k
open_choice true k last p ps is h later =
    passed p.is_open k p.number (open_of ps) (grind (arith, nat_tests))
    ∙ later ∙ ap (λ (i : ℕ). is_open_at (slice_get (p ∷ ps) i) k) (sym (further k p ps is))
open_choice false k last p ps is h later =
    met p.is_open (p.number == k) k p.number last (open_of ps) refl (grind (arith, nat_tests)) (open_rising p.number last ps h)
    ∙ ap (λ (i : ℕ). is_open_at (slice_get (p ∷ ps) i) k) (sym (here k p ps is))

pub open_at : (k low last : ℕ) (ps : List Place) → Rising low last (numbers_of ps)
    → holds k (open_of ps) ≡ is_open_at (slice_get ps (place_of k ps)) k
open_at k low last [] h = refl
open_at k low last (p ∷ ps) h = open_choice (below k p) k last p ps refl h.1 (open_at k p.number last ps h.1)

-- ---- one closed

-- the number's place is there, and open
pub record IsPlace (k : ℕ) (ps : List Place) (i : ℕ) : Type 0 where
  pub inside : i < length ps
  pub number : (d : Place) → (slice_index_or ps i d).number ≡ k
  pub is_open : (d : Place) → (slice_index_or ps i d).is_open ≡ true

both : (a b : Bool) → (a && b) ≡ true → (a ≡ true) × (b ≡ true)
both true b is = (refl, is)
both false b is = absurd (false≢true is)

pub is_place : (k : ℕ) (ps : List Place) (i : ℕ) → is_open_at (slice_get ps i) k ≡ true → IsPlace k ps i
is_place k [] i is = absurd (false≢true is)
is_place k (p ∷ ps) zero is =
    let parts = both (p.number == k) p.is_open is in
    record { inside = omega arith; number = λ d. eqb-true p.number k parts.0; is_open = λ d. parts.1 }
is_place k (p ∷ ps) (suc i) is =
    let later = is_place k ps i is in
    record { inside = omega (arith, later.inside); number = λ d. later.number d; is_open = λ d. later.is_open d }

pub numbers_closed : (ps : List Place) (i : ℕ) (d : Place) → numbers_of (slice_set ps i (record (slice_index_or ps i d) { is_open = false })) ≡ numbers_of ps
numbers_closed [] i d = refl
numbers_closed (p ∷ ps) zero d = refl
numbers_closed (p ∷ ps) (suc i) d = ap (λ (ns : List ℕ). p.number ∷ ns) (numbers_closed ps i d)

others_passed : (b : Bool) (k n : ℕ) (rest left : List ℕ) → (n == k) ≡ false → left ≡ others k rest
    → cond b (n ∷ left) left ≡ others k (cond b (n ∷ rest) rest)
others_passed true k n rest left other is = ap (λ (ms : List ℕ). n ∷ ms) is ∙ sym (cond-true _ _ _ (ap not other))
others_passed false k n rest left other is = is

others_met : (b : Bool) (k n last : ℕ) (rest : List ℕ) → b ≡ true → n ≡ k → Rising n last rest → rest ≡ others k (cond b (n ∷ rest) rest)
others_met true k n last rest is same h =
    sym (cond-false _ _ _ (ap not (eq-eqb n k same)) ∙ others_above k n last rest (omega (arith, same)) h)
others_met false k n last rest is same h = absurd (false≢true is)

pub open_closed : (k low last : ℕ) (ps : List Place) (i : ℕ) (d : Place) → Rising low last (numbers_of ps) → IsPlace k ps i
    → open_of (slice_set ps i (record (slice_index_or ps i d) { is_open = false })) ≡ others k (open_of ps)
open_closed k low last [] i d h is = absurd (omega (arith, is.inside))
open_closed k low last (p ∷ ps) zero d h is =
    others_met p.is_open k p.number last (open_of ps) (is.is_open d) (is.number d) (open_rising p.number last ps h.1)
open_closed k low last (p ∷ ps) (suc i) d h is =
    let inside : i < length ps = omega (arith, is.inside) in
    let far = above_at p.number last ps i d h.1 inside in
    let there = is.number d in
    others_passed p.is_open k p.number (open_of ps) _ (ne_eqb p.number k (λ same. absurd (omega (arith, same, far, there))))
    (open_closed k p.number last ps i d h.1 (record { inside = inside; number = λ d. is.number d; is_open = λ d. is.is_open d }))

-- ---- the first open place

one_more_or_none : (b : Bool) (m n : ℕ) → m ≤ n → cond b (1 + m) 0 ≤ cond b (1 + n) 0
one_more_or_none true m n le = omega (arith, le)
one_more_or_none false m n le = omega arith

at_most_more : (b : Bool) (m : ℕ) → cond b (1 + m) 0 ≤ 1 + m
at_most_more true m = omega arith
at_most_more false m = omega arith

-- it only moves on as a place is closed
pub first_moves_on : (ps : List Place) (i : ℕ) (d : Place) → first_open ps ≤ first_open (slice_set ps i (record (slice_index_or ps i d) { is_open = false }))
first_moves_on [] i d = omega arith
first_moves_on (p ∷ ps) zero d = at_most_more (closed p) (first_open ps)
first_moves_on (p ∷ ps) (suc i) d = one_more_or_none (closed p) _ _ (first_moves_on ps i d)

pub first_within : (ps : List Place) → first_open ps ≤ length ps
first_within [] = omega arith
first_within (p ∷ ps) = omega (arith, at_most_more (closed p) (first_open ps), first_within ps)

stops : (b : Bool) (m i : ℕ) → m ≤ i → cond b (1 + m) 0 ≤ suc i
stops true m i le = omega (arith, le)
stops false m i le = omega arith

-- it isn't behind an open place
pub first_stops : (ps : List Place) (i : ℕ) (d : Place) → i < length ps → (slice_index_or ps i d).is_open ≡ true → first_open ps ≤ i
first_stops [] i d inside is = absurd (omega (arith, inside))
first_stops (p ∷ ps) zero d inside is =
    let here : first_open (p ∷ ps) ≡ 0 = cond-false _ _ _ (ap not is) in
    omega (arith, here)
first_stops (p ∷ ps) (suc i) d inside is = stops (closed p) (first_open ps) i (first_stops ps i d (omega (arith, inside)) is)

goes : (b : Bool) (m i : ℕ) → suc i ≤ cond b (1 + m) 0 → (i ≤ m → i + 1 ≤ m) → suc i + 1 ≤ cond b (1 + m) 0
goes true m i le later = omega (arith, later (omega (arith, le)))
goes false m i le later = absurd (omega (arith, le))

-- a closed place isn't it
pub first_goes : (ps : List Place) (i : ℕ) (d : Place) → i < length ps → i ≤ first_open ps → (slice_index_or ps i d).is_open ≡ false → i + 1 ≤ first_open ps
first_goes [] i d inside le is = absurd (omega (arith, inside))
first_goes (p ∷ ps) zero d inside le is =
    let here : first_open (p ∷ ps) ≡ 1 + first_open ps = cond-true _ _ _ (ap not is) in
    omega (arith, here)
first_goes (p ∷ ps) (suc i) d inside le is =
    goes (closed p) (first_open ps) i le (λ few. first_goes ps i d (omega (arith, inside)) few is)

abbrev pub low_at : ℕ → Option Place → ℕ
low_at last None = last
low_at last (Some p) = p.number - 1

low_choice : (b : Bool) (last : ℕ) (p : Place) (ps : List Place) → p.is_open ≡ b → low_water_of last (open_of ps) ≡ low_at last (slice_get ps (first_open ps))
    → low_water_of last (open_of (p ∷ ps)) ≡ low_at last (slice_get (p ∷ ps) (first_open (p ∷ ps)))
low_choice true last p ps is later =
    ap (low_water_of last) (cond-true _ _ _ is)
    ∙ ap (λ (i : ℕ). low_at last (slice_get (p ∷ ps) i)) (sym (cond-false (closed p) (1 + first_open ps) 0 (ap not is)))
low_choice false last p ps is later =
    ap (low_water_of last) (cond-false _ _ _ is)
    ∙ later
    ∙ ap (λ (i : ℕ). low_at last (slice_get (p ∷ ps) i)) (sym (cond-true (closed p) (1 + first_open ps) 0 (ap not is) ∙ one-add (first_open ps)))

pub low_is : (last : ℕ) (ps : List Place) → low_water_of last (open_of ps) ≡ low_at last (slice_get ps (first_open ps))
low_is last [] = refl
low_is last (p ∷ ps) = low_choice p.is_open last p ps refl (low_is last ps)

-- ---- the open places alone

abbrev pub open_places : List Place → List Place
open_places ps = filter (λ p. p.is_open) ps

left_choice : (b : Bool) (p : Place) (ps : List Place) → p.is_open ≡ b → open_of (open_places ps) ≡ open_of ps → open_of (open_places (p ∷ ps)) ≡ open_of (p ∷ ps)
left_choice true p ps is later =
    ap open_of (cond-true _ _ _ is) ∙ cond-true _ _ _ is ∙ ap (λ (ns : List ℕ). p.number ∷ ns) later ∙ sym (cond-true _ _ _ is)
left_choice false p ps is later = ap open_of (cond-false _ _ _ is) ∙ later ∙ sym (cond-false _ _ _ is)

pub open_left : (ps : List Place) → open_of (open_places ps) ≡ open_of ps
open_left [] = refl
open_left (p ∷ ps) = left_choice p.is_open p ps refl (open_left ps)

numbers_choice : (b : Bool) (p : Place) (ps : List Place) → p.is_open ≡ b → numbers_of (open_places ps) ≡ open_of ps → numbers_of (open_places (p ∷ ps)) ≡ open_of (p ∷ ps)
numbers_choice true p ps is later =
    ap numbers_of (cond-true _ _ _ is) ∙ ap (λ (ns : List ℕ). p.number ∷ ns) later ∙ sym (cond-true _ _ _ is)
numbers_choice false p ps is later = ap numbers_of (cond-false _ _ _ is) ∙ later ∙ sym (cond-false _ _ _ is)

pub numbers_left : (ps : List Place) → numbers_of (open_places ps) ≡ open_of ps
numbers_left [] = refl
numbers_left (p ∷ ps) = numbers_choice p.is_open p ps refl (numbers_left ps)

first_choice : (b : Bool) (p : Place) (ps : List Place) → p.is_open ≡ b → first_open (open_places ps) ≡ 0 → first_open (open_places (p ∷ ps)) ≡ 0
first_choice true p ps is later = ap first_open (cond-true _ _ _ is) ∙ cond-false _ _ _ (ap not is)
first_choice false p ps is later = ap first_open (cond-false _ _ _ is) ∙ later

pub first_left : (ps : List Place) → first_open (open_places ps) ≡ 0
first_left [] = refl
first_left (p ∷ ps) = first_choice p.is_open p ps refl (first_left ps)

numbers_length : (ps : List Place) → length (numbers_of ps) ≡ length ps
numbers_length [] = refl
numbers_length (p ∷ ps) = ap suc (numbers_length ps)

-- an open number has a place
pub number_place : (k last : ℕ) (ps qs : List Place) (i : ℕ) → i ≡ place_of k qs → qs ≡ ps → Rising 0 last (numbers_of ps) → holds k (open_of ps) ≡ true → IsPlace k ps i
number_place k last ps qs i at same rises is =
    let here : i ≡ place_of k ps = at ∙ ap (λ (rs : List Place). place_of k rs) same in
    is_place k ps i (ap (λ (j : ℕ). is_open_at (slice_get ps j) k) here ∙ sym (open_at k 0 last ps rises) ∙ is)

pub left_length : (ps : List Place) → length (open_places ps) ≡ length (open_of ps)
left_length ps = sym (numbers_length (open_places ps)) ∙ ap length (numbers_left ps)

-- one number more
pub pushed_kept : (last : ℕ) (ps new : List Place) (first pending capacity : ℕ) → AreKept last ps first pending capacity
    → new ≡ ps ++ place (last + 1) true ∷ [] → 0 < capacity / 2 - pending → AreKept (last + 1) new first (pending + 1) capacity
pushed_kept last ps new first pending capacity kept is room = subst (λ (qs : List Place). AreKept (last + 1) qs first (pending + 1) capacity) (sym is) (record {
  rising = subst (Rising 0 (last + 1)) (sym (numbers_pushed ps (place (last + 1) true))) (rising_more 0 last (numbers_of ps) kept.rising);
  first = kept.first ∙ sym (first_pushed ps (last + 1));
  all = omega (arith, kept.all, ap length (open_pushed ps (last + 1)), length-append (open_of ps) ((last + 1) ∷ []));
  half = omega (arith, kept.half, length-append ps (place (last + 1) true ∷ []));
  room = omega (arith, room);
})

-- one fewer is open
pub fewer_open : (k last : ℕ) (ps closed : List Place) (pending : ℕ) → Rising 0 last (numbers_of ps) → pending ≡ length (open_of ps) → holds k (open_of ps) ≡ true
    → open_of closed ≡ others k (open_of ps) → pending - 1 ≡ length (open_of closed)
fewer_open k last ps closed pending rises all is out =
    let one = one_less k 0 last (open_of ps) (open_rising 0 last ps rises) is in
    omega (arith, all, one, ap length out)

-- an open number's place is closed
module _ (k last : ℕ) (ps : List Place) (i : ℕ) (was : Place) (is : was ≡ slice_index_or ps i was) where
  abbrev now_closed : Place → List Place
  now_closed p = slice_set ps i (record p { is_open = false })

  pub closes : IsPlace k ps i → Rising 0 last (numbers_of ps) → open_of (now_closed was) ≡ others k (open_of ps)
  closes there rises = ap (λ (p : Place). open_of (now_closed p)) is ∙ open_closed k 0 last ps i was rises there

  pub same_numbers : numbers_of (now_closed was) ≡ numbers_of ps
  same_numbers = ap (λ (p : Place). numbers_of (now_closed p)) is ∙ numbers_closed ps i was

  pub first_not_before : first_open ps ≤ first_open (now_closed was)
  first_not_before = subst (λ (p : Place). first_open ps ≤ first_open (now_closed p)) (sym is) (first_moves_on ps i was)

-- an open number is answered: its place is closed, and closed places may be left out
pub answered_kept : (k last : ℕ) (ps closed new : List Place) (first now pending capacity capacity' : ℕ) → AreKept last ps first pending capacity
    → holds k (open_of ps) ≡ true → open_of closed ≡ others k (open_of ps) → open_of new ≡ open_of closed
    → (Rising 0 last (numbers_of closed) → Rising 0 last (numbers_of new)) → numbers_of closed ≡ numbers_of ps → now ≡ first_open new
    → length new ≤ pending - 1 + (pending - 1) → capacity' ≡ capacity → AreKept last new now (pending - 1) capacity'
answered_kept k last ps closed new first now pending capacity capacity' kept is out same rises numbers at half room = record {
  rising = rises (subst (Rising 0 last) (sym numbers) kept.rising);
  first = at;
  all = fewer_open k last ps closed pending kept.rising kept.all is out ∙ sym (ap length same);
  half = half;
  room = omega (arith, kept.room, room);
}

-- a number's place tells whether it is open
pub open_there : (k last : ℕ) (ps qs rs : List Place) (i : ℕ) (o : Option Place) → i ≡ place_of k qs → qs ≡ ps → rs ≡ ps → o ≡ slice_get rs i
    → Rising 0 last (numbers_of ps) → is_open_at o k ≡ holds k (open_of ps)
open_there k last ps qs rs i o at same also is rises =
    let here : i ≡ place_of k ps = at ∙ ap (λ (ts : List Place). place_of k ts) same in
    let found : o ≡ slice_get ps (place_of k ps) = is ∙ ap₂ (λ (ts : List Place) (j : ℕ). slice_get ts j) also here in
    ap (λ (p : Option Place). is_open_at p k) found ∙ sym (open_at k 0 last ps rises)

-- the first open place tells the low-water mark
pub low_there : (last : ℕ) (ps qs : List Place) (i : ℕ) (o : Option Place) → qs ≡ ps → i ≡ first_open ps → o ≡ slice_get qs i
    → low_at last o ≡ low_water_of last (open_of ps)
low_there last ps qs i o same at is =
    let found : o ≡ slice_get ps (first_open ps) = is ∙ ap₂ (λ (ts : List Place) (j : ℕ). slice_get ts j) same at in
    ap (low_at last) found ∙ sym (low_is last ps)

pub low_greatest : (last : ℕ) (ps : List Place) (n : ℕ) → Rising 0 last (numbers_of ps) → n ≡ low_water_of last (open_of ps) → IsLowWater last (open_of ps) n
low_greatest last ps n rises is = subst (IsLowWater last (open_of ps)) (sym is) (low_water_is last (open_of ps) (open_rising 0 last ps rises))

pub none_open : (ns : List ℕ) → length ns ≡ 0 → [] ≡ ns
none_open [] none = refl
none_open (n ∷ ns) none = absurd (omega (arith, none))
