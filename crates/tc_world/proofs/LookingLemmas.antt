-- What a look at a world compares with is what the first events of its log say of numbers.
use Rattle.std.proofs.Common.{◌≡◌, ℕ, ◌+◌, ◌-◌, ◌≤◌, ◌<◌, Bool, true, false, ◌&&◌, ◌||◌}
use Rattle.std.proofs.Common.{◌==◌, List, [], ◌∷◌, ◌++◌, length, take, drop, Option, Some}
use Rattle.std.proofs.Common.{None, arith, refl, sym, ◌∙◌, ap, inl, inr, if◌then◌else◌}
use Rattle.std.specs.Prelude.{count_by, fold, reverse}
use Rattle.std.specs.List.{list_all, list_any}
use Rattle.std.proofs.Math.Bool.{or-false}
use Rattle.std.proofs.Math.Nat.{min-le_left, min-le_right, le-min}
use Rattle.std.proofs.Math.Seq.{take-append_seam, drop-append_seam}
use Rattle.std.proofs.lemmas.Bool.{cases_eq, cases_lt}
use Rattle.std.proofs.lemmas.List.{reverse-append, length-reverse}
use Rattle.std.proofs.lemmas.List.Folds.{list_all-append, list_any-append}
use Rattle.std.proofs.lemmas.List.Sums.{sum_by-append}
use Rattle.tc_log.specs.declared.event.Event.{Event}
use Rattle.tc_log.specs.declared.event.Event.TheVariants.{Ask, Answer, Undo, Checkpoint}
use Rattle.verifier.specs.Checked.{Checked}
use Rattle.history.specs.Flight.{Flight, given, open_op, is_flight, is_open, low_water, AllAnswered}
use Rattle.history.proofs.Laws.{low_water_is}
use Rattle.transactions.specs.Legal.{Legal}
use Rattle.transactions.proofs.StandingLemmas.{eq-true, eq-false}
use Rattle.transactions.proofs.Flights.{standing_flight}
use Rattle.transactions.proofs.LowWater.{given_more, flight_some}
use Rattle.serial.proofs.ListLemmas.{if_none, if_some}
use Rattle.tc_core.specs.Core.{Asking}
use Rattle.tc_world.specs.Waiting.{asking_by, request_of, AreWaiting}
use Rattle.history.specs.Anew.{begun}
use Rattle.tc_world.proofs.Bases.{none_behind}
use Rattle.serial.proofs.BackLemmas.{legal_first}
use Rattle.tc_world.specs.Joining.Written.{gives, given_of, answers, is_left, below, below_event, below_request, low_left}

-- ---- events in the order in which they happened

or_turned : (a b : Bool) → (a || (b || false)) ≡ (b || a)
or_turned true true = refl
or_turned true false = refl
or_turned false true = refl
or_turned false false = refl

and_turned : (a b : Bool) → (a && (b && true)) ≡ (b && a)
and_turned true true = refl
and_turned true false = refl
and_turned false true = refl
and_turned false false = refl

pub any_reverse : {X : Type 0} (p : X → Bool) (xs : List X) → list_any p (reverse xs) ≡ list_any p xs
any_reverse p [] = refl
any_reverse p (x ∷ xs) =
    ap (list_any p) (reverse-append (x ∷ []) xs)
    ∙ (list_any-append p (reverse xs) (x ∷ [])
    ∙ (ap (λ (b : Bool). b || (p x || false)) (any_reverse p xs) ∙ or_turned (list_any p xs) (p x)))

pub all_reverse : {X : Type 0} (p : X → Bool) (xs : List X) → list_all p (reverse xs) ≡ list_all p xs
all_reverse p [] = refl
all_reverse p (x ∷ xs) =
    ap (list_all p) (reverse-append (x ∷ []) xs)
    ∙ (list_all-append p (reverse xs) (x ∷ [])
    ∙ (ap (λ (b : Bool). b && (p x && true)) (all_reverse p xs) ∙ and_turned (list_all p xs) (p x)))

pub front : {X : Type 0} (later first : List X) (n : ℕ) → length first ≡ n → take n (reverse (later ++ first)) ≡ reverse first
front later first n count =
    ap (take n) (reverse-append later first)
    ∙ (ap (λ (k : ℕ). take k (reverse first ++ reverse later)) (sym count ∙ sym (length-reverse first))
    ∙ take-append_seam (reverse first) (reverse later))

pub back : {X : Type 0} (later first : List X) (n : ℕ) → length first ≡ n → drop n (reverse (later ++ first)) ≡ reverse later
back later first n count =
    ap (drop n) (reverse-append later first)
    ∙ (ap (λ (k : ℕ). drop k (reverse first ++ reverse later)) (sym count ∙ sym (length-reverse first))
    ∙ drop-append_seam (reverse first) (reverse later))

-- ---- how many numbers were given out

count_last : (h : List Event) (e : Event) → count_by gives (reverse (e ∷ h)) ≡ count_by gives (reverse h) + count_by gives (e ∷ [])
count_last h e = ap (count_by gives) (reverse-append (e ∷ []) h) ∙ sum_by-append _ (reverse h) (e ∷ [])

pub given_is : (ps : List Checked) (h : List Event) → Legal ps h → count_by gives (reverse h) + begun h ≡ given h
given_is ps [] legal = refl
given_is ps (Checkpoint before numbers ∷ h) legal =
    let one = count_last h (Checkpoint before numbers) in
    let none : count_by gives (reverse h) ≡ 0 = ap (λ (x : List Event). count_by gives (reverse x)) legal.0.oldest in
    omega (arith, one, none)
given_is ps (e ∷ h) legal = (let one = count_last h e in let ih = given_is ps h legal.1 in omega (arith, one, ih))

given_some : (b : ℕ) (es : List Event) → 0 < length es → given_of b es ≡ b + count_by gives es
given_some b [] some = absurd (omega (arith, some))
given_some b (e ∷ es) some = refl

begun_same : (ps : List Checked) (later first : List Event) → Legal ps (later ++ first) → 0 < length first → begun (later ++ first) ≡ begun first
begun_same ps [] first legal some = refl
begun_same ps (Checkpoint before numbers ∷ later) first legal some =
    let none : length first ≡ 0 = ap (λ (x : List Event). length x) (none_behind later first legal.0.oldest) in
    absurd (omega (arith, none, some))
begun_same ps (_ ∷ later) first legal some = begun_same ps later first legal.1 some

pub given_first : (ps : List Checked) (later first : List Event) → Legal ps (later ++ first) → given_of (begun (later ++ first)) (reverse first) ≡ given first
given_first ps later [] legal = refl
given_first ps later (e ∷ first) legal =
    let h : List Event = e ∷ first in
    let many : length (reverse h) ≡ length h = length-reverse h in
    let is = given_is ps h (legal_first ps later h legal) in
    let same = begun_same ps later h legal (omega arith) in
    let some = given_some (begun (later ++ h)) (reverse h) (omega (arith, many)) in
    omega (arith, is, same, some)

-- ---- what is left open

-- a number that wasn't given out yet changes nothing
sent_later : (n m top : ℕ) (f : Flight) (o : Option Flight) (b c : Bool) → n ≤ top → m ≡ top + 1 → b ≡ (is_flight o || c)
    → b ≡ (is_flight (if m == n then Some f else o) || c)
sent_later n m top f o b c low next ih = ih ∙ ap (λ (x : Option Flight). is_flight x || c) (sym (if_none m n (Some f) o (omega (arith, low, next))))

answered_later : (n m : ℕ) (o : Option Flight) (b c : Bool) → (m ≡ n → is_flight o ≡ true) → b ≡ (is_flight o || c)
    → b ≡ (is_flight (if m == n then None else o) || ((m == n) || c))
answered_later n m o b c flies ih = elim (cases_eq m n) [
  | inl same ↦
      let was : b ≡ true = ih ∙ ap (λ (x : Bool). x || c) (flies same) in
      was ∙ sym (ap (λ (x : Option Flight). is_flight x || ((m == n) || c)) (if_some m n None o same) ∙ ap (λ (x : Bool). x || c) (eq-true m n same))
  | inr other ↦
      ih ∙ sym (ap (λ (x : Option Flight). is_flight x || ((m == n) || c)) (if_none m n None o other)
      ∙ ap (λ (x : Bool). is_flight o || (x || c)) (eq-false m n other))
]

-- a number is open behind the first events where it is open still, or where a later event answers it
open_first : (ps : List Checked) (later first : List Event) (n : ℕ) → Legal ps (later ++ first) → n ≤ given first
    → is_open first n ≡ (is_open (later ++ first) n || list_any (answers n) later)
open_first ps [] first n legal low = sym (or-false (is_open first n))
open_first ps (Ask t m q ∷ later) first n legal low =
    let more = given_more ps later first legal.1 in
    sent_later n m (given (later ++ first)) (record { txn = t; op = q }) (open_op (later ++ first) n) (is_open first n) (list_any (answers n) later)
    (omega (arith, low, more)) legal.0.next (open_first ps later first n legal.1 low)
open_first ps (Answer t m said ∷ later) first n legal low =
    answered_later n m (open_op (later ++ first) n) (is_open first n) (list_any (answers n) later)
    (λ same.
    let can = legal.0 in
    let flies = (standing_flight ps (later ++ first) legal.1 t can.s can.r can.is can.waits).1 in
    ap is_flight (ap (open_op (later ++ first)) (sym (can.number ∙ same)) ∙ flies))
    (open_first ps later first n legal.1 low)
open_first ps (Undo t m q ∷ later) first n legal low =
    let more = given_more ps later first legal.1 in
    sent_later n m (given (later ++ first)) (record { txn = t; op = q }) (open_op (later ++ first) n) (is_open first n) (list_any (answers n) later)
    (omega (arith, low, more)) legal.0.next (open_first ps later first n legal.1 low)
open_first ps (_ ∷ later) first n legal low = open_first ps later first n legal.1 low

abbrev is_asking : Option Asking → Bool
is_asking None = false
is_asking (Some r) = true

asked_by : (r : Asking) (b : Bool) (o : Option Asking) (c : Bool) → c ≡ is_asking o → (b || c) ≡ is_asking (if b then Some r else o)
asked_by r true o c ih = refl
asked_by r false o c ih = ih

asked_is : (rs : List Asking) (n : ℕ) → list_any (λ (r : Asking). r.number == n) rs ≡ is_asking (request_of rs n)
asked_is [] n = refl
asked_is (r ∷ rs) n = asked_by r (r.number == n) (request_of rs n) _ (asked_is rs n)

asking_is : (n : ℕ) (o : Option Flight) → is_asking (asking_by n o) ≡ is_flight o
asking_is n None = refl
asking_is n (Some f) = refl

asked_open : (rs : List Asking) (h : List Event) (n : ℕ) → AreWaiting rs h → list_any (λ (r : Asking). r.number == n) rs ≡ is_open h n
asked_open rs h n w = asked_is rs n ∙ (ap is_asking (w.each n) ∙ asking_is n (open_op h n))

pub left_is : (ps : List Checked) (later first : List Event) (rs : List Asking) (n : ℕ) → Legal ps (later ++ first)
    → AreWaiting rs (later ++ first) → n ≤ given first
    → is_left (reverse later) rs n ≡ is_open first n
left_is ps later first rs n legal w low =
    ap (λ (b : Bool). b || list_any (answers n) (reverse later)) (asked_open rs (later ++ first) n w)
    ∙ (ap (λ (b : Bool). is_open (later ++ first) n || b) (any_reverse (answers n) later) ∙ sym (open_first ps later first n legal low))

-- ---- the mark

either : (a b : Bool) → (a || b) ≡ true → (P : Type 0) → (a ≡ true → P) → (b ≡ true → P) → P
either true b is P one two = one refl
either false b is P one two = two is

below_le : (low n : ℕ) → below low n ≤ low
below_le low n = min-le_left low (n - 1)

below_less : (low n : ℕ) → 0 < n → below low n < n
below_less low n some = (let few = min-le_right low (n - 1) in omega (arith, few, some))

above_less : (m low n : ℕ) → m ≤ low → m < n → m ≤ below low n
above_less m low n le less = le-min le (omega (arith, less))

pub event_le : (low : ℕ) (e : Event) → below_event low e ≤ low
event_le low (Answer t n said) = below_le low n
event_le low _ = omega arith

events_le : (es : List Event) (low : ℕ) → fold below_event low es ≤ low
events_le [] low = omega arith
events_le (e ∷ es) low = (let ih = events_le es (below_event low e) in let one = event_le low e in omega (arith, ih, one))

requests_le : (rs : List Asking) (low : ℕ) → fold below_request low rs ≤ low
requests_le [] low = omega arith
requests_le (r ∷ rs) low = (let ih = requests_le rs (below_request low r) in let one = below_le low r.number in omega (arith, ih, one))

event_less : (low n : ℕ) (e : Event) → answers n e ≡ true → 0 < n → below_event low e < n
event_less low n (Answer t m said) is some = elim (cases_eq m n) [
  | inl same ↦ (let less = below_less low m (omega (arith, same, some)) in omega (arith, less, same))
  | inr other ↦ absurd (let bad : true ≡ false = sym is ∙ eq-false m n other in cc)
]
event_less low n _ is some = absurd cc

events_less : (es : List Event) (low n : ℕ) → list_any (answers n) es ≡ true → 0 < n → fold below_event low es < n
events_less [] low n is some = absurd cc
events_less (e ∷ es) low n is some =
    either (answers n e) (list_any (answers n) es) is (fold below_event (below_event low e) es < n)
    (λ here. let le = events_le es (below_event low e) in let less = event_less low n e here some in omega (arith, le, less))
    (λ behind. events_less es (below_event low e) n behind some)

requests_less : (rs : List Asking) (low n : ℕ) → list_any (λ (r : Asking). r.number == n) rs ≡ true → 0 < n → fold below_request low rs < n
requests_less [] low n is some = absurd cc
requests_less (r ∷ rs) low n is some = elim (cases_eq r.number n) [
  | inl same ↦
      let le = requests_le rs (below_request low r) in
      let less = below_less low r.number (omega (arith, same, some)) in
      omega (arith, le, less, same)
  | inr other ↦ requests_less rs (below_request low r) n
      (sym (ap (λ (b : Bool). b || list_any (λ (x : Asking). x.number == n) rs) (eq-false r.number n other)) ∙ is) some
]

event_above : (m low : ℕ) (e : Event) → m ≤ low → ((n : ℕ) → answers n e ≡ true → m < n) → m ≤ below_event low e
event_above m low (Answer t n said) le above = above_less m low n le (above n (eq-true n n refl))
event_above m low _ le above = le

or_left : (a b : Bool) → a ≡ true → (a || b) ≡ true
or_left a b is = ap (λ (x : Bool). x || b) is

or_right : (a b : Bool) → b ≡ true → (a || b) ≡ true
or_right true b is = refl
or_right false b is = is

events_above : (es : List Event) (m low : ℕ) → m ≤ low → ((n : ℕ) → list_any (answers n) es ≡ true → m < n) → m ≤ fold below_event low es
events_above [] m low le above = le
events_above (e ∷ es) m low le above =
    events_above es m (below_event low e) (event_above m low e le (λ n is. above n (or_left (answers n e) (list_any (answers n) es) is)))
    (λ n is. above n (or_right (answers n e) (list_any (answers n) es) is))

requests_above : (rs : List Asking) (m low : ℕ) → m ≤ low
    → ((n : ℕ) → list_any (λ (r : Asking). r.number == n) rs ≡ true → m < n) → m ≤ fold below_request low rs
requests_above [] m low le above = le
requests_above (r ∷ rs) m low le above =
    requests_above rs m (below_request low r)
    (above_less m low r.number le (above r.number (or_left (r.number == r.number)
    (list_any (λ (x : Asking). x.number == r.number) rs) (eq-true r.number r.number refl))))
    (λ n is. above n (or_right (r.number == n) (list_any (λ (x : Asking). x.number == n) rs) is))

flying : (o : Option Flight) → is_flight o ≡ true → (f : Flight) × (o ≡ Some f)
flying None is = absurd cc
flying (Some f) is = (f, refl)

-- where all up to m were answered in the first events, each number that is left open lies above
left_above : (ps : List Checked) (later first : List Event) (rs : List Asking) (m n : ℕ) → Legal ps first
    → Legal ps (later ++ first) → AreWaiting rs (later ++ first)
    → AllAnswered first m → is_left (reverse later) rs n ≡ true → m < n
left_above ps later first rs m n legal_now legal w all is = elim (cases_lt m n) [
  | inl less ↦ less
  | inr le ↦
      let few = all.given_out in
      let still : is_open first n ≡ true = sym (left_is ps later first rs n legal w (omega (arith, le, few))) ∙ is in
      let f = flying (open_op first n) still in
      let closed = all.answered n (flight_some ps first legal_now n f.0 f.1) le in
      absurd (let bad : true ≡ false = sym still ∙ closed in cc)
]

pub low_is : (ps : List Checked) (later first : List Event) (rs : List Asking) → Legal ps first → Legal ps (later ++ first) → AreWaiting rs (later ++ first)
    → low_left (given first) (reverse later) rs ≡ low_water first
low_is ps later first rs legal_now legal w =
    low_water_is first low (record {
      all = record {
        given_out = few;
        answered = λ m some le. by m some le (is_open first m) refl;
      };
      greatest = λ m all.
          events_above (reverse later) m (fold below_request (given first) rs)
          (requests_above rs m (given first) all.given_out (λ n is. left_above ps later first rs m n legal_now legal w
          all (or_left _ (list_any (answers n) (reverse later)) is)))
          (λ n is. left_above ps later first rs m n legal_now legal w all (or_right (list_any (λ (r : Asking). r.number == n) rs) _ is));
    })
  where
    low : ℕ
    low = low_left (given first) (reverse later) rs

    few : low ≤ given first
    few = (let a = events_le (reverse later) (fold below_request (given first) rs) in let b = requests_le rs (given first) in omega (arith, a, b))

    asked_less : (m : ℕ) → 0 < m → list_any (λ (r : Asking). r.number == m) rs ≡ true → low < m
    asked_less m some is =
        let a = events_le (reverse later) (fold below_request (given first) rs) in
        let b = requests_less rs (given first) m is some in
        omega (arith, a, b)

    by : (m : ℕ) → 0 < m → m ≤ low → (b : Bool) → is_open first m ≡ b → is_open first m ≡ false
    by m some le false is = is
    by m some le true is =
        let left : is_left (reverse later) rs m ≡ true = left_is ps later first rs m legal w (omega (arith, le, few)) ∙ is in
        let less : low < m = either (list_any (λ (r : Asking). r.number == m) rs) (list_any (answers m) (reverse later))
        left (low < m) (asked_less m some) (λ here. events_less (reverse later)
        (fold below_request (given first) rs) m here some) in
        absurd (omega (arith, le, less))
