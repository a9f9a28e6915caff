-- The requests that a world keeps, from event to event.
use Rattle.std.proofs.Common.{◌≡◌, ◌≢◌, ℕ, ◌+◌, ◌<◌, List, [], ◌∷◌, ◌++◌, Option, Some, None, arith, refl, sym, ◌∙◌}
use Rattle.std.proofs.Common.{ap, zero, suc, inl, inr, ◌==◌, if◌then◌else◌}
use Rattle.std.specs.Prelude.{slice_get, remove}
use Rattle.std.proofs.lemmas.Bool.{cases_eq, cond-true, cond-false}
use Rattle.access_slots.specs.declared.op.Said.{Said}
use Rattle.verifier.specs.Checked.{Checked}
use Rattle.tc_log.specs.declared.event.Event.{Event}
use Rattle.tc_log.specs.declared.event.Event.TheVariants.{Ask, Answer, Undo}
use Rattle.history.specs.Flight.{Flight, open_op, given}
use Rattle.transactions.specs.Legal.{Legal}
use Rattle.transactions.specs.Room.{each_one, total}
use Rattle.transactions.proofs.StandingLemmas.{eq-true, eq-false, some_same, none_some, total-part}
use Rattle.transactions.proofs.Flights.{standing_flight, flight}
use Rattle.transactions.proofs.Headline.{awaited}
use Rattle.tc_core.specs.Core.{Asking}
use Rattle.tc_world.specs.Waiting.{asking_by, request_of, Distinct, AreWaiting}

pub none_if : {X : Type 0} (o : Option X) → ((x : X) → o ≡ Some x → ⊥) → o ≡ None
none_if None h = refl
none_if (Some x) h = absurd (h x refl)

-- ---- lists of requests

pub none_of : (rs : List Asking) (n : ℕ) → ((k : ℕ) (r : Asking) → slice_get rs k ≡ Some r → r.number ≢ n) → request_of rs n ≡ None
none_of [] n h = refl
none_of (r ∷ rs) n h = cond-false _ _ _ (eq-false r.number n (h 0 r refl)) ∙ none_of rs n (λ k x e. h (suc k) x e)

pub found_at : (rs : List Asking) (k : ℕ) (r : Asking) → Distinct rs → slice_get rs k ≡ Some r → request_of rs r.number ≡ Some r
found_at [] k r once e = absurd cc
found_at (x ∷ xs) zero r once e =
    let same = some_same x r e in
    cond-true _ _ _ (eq-true x.number r.number (ap (λ (y : Asking). y.number) same)) ∙ e
found_at (x ∷ xs) (suc k) r once e =
    let ih = found_at xs k r once.1 e in
    elim (cases_eq x.number r.number) [
      | inl same ↦ absurd (none_some _ r (ap (request_of xs) (sym same) ∙ once.0) ih)
      | inr other ↦ cond-false _ _ _ (eq-false x.number r.number other) ∙ ih
    ]

-- a request of a number stands somewhere
pub record IsThere (rs : List Asking) (r : Asking) : Type 0 where
  pub k : ℕ
  pub at : slice_get rs k ≡ Some r

pub is_there : (rs : List Asking) (n : ℕ) (r : Asking) → request_of rs n ≡ Some r → IsThere rs r
is_there [] n r e = absurd cc
is_there (x ∷ xs) n r e = elim (cases_eq x.number n) [
  | inl same ↦ record { k = 0; at = sym (cond-true _ _ _ (eq-true x.number n same)) ∙ e }
  | inr other ↦ (let ih = is_there xs n r (sym (cond-false _ _ _ (eq-false x.number n other)) ∙ e) in record { k = suc ih.k; at = ih.at })
]

pub push_other : (rs : List Asking) (r : Asking) (n : ℕ) → r.number ≢ n → request_of (rs ++ r ∷ []) n ≡ request_of rs n
push_other [] r n other = cond-false _ _ _ (eq-false r.number n other)
push_other (x ∷ xs) r n other = elim (cases_eq x.number n) [
  | inl same ↦ (let t = eq-true x.number n same in cond-true _ _ _ t ∙ sym (cond-true _ (Some x) (request_of xs n) t))
  | inr differ ↦ (let t = eq-false x.number n differ in cond-false _ _ _ t ∙ (push_other xs r n other ∙ sym (cond-false _ (Some x) (request_of xs n) t)))
]

not_first : (x : Asking) (xs : List Asking) (n : ℕ) → request_of (x ∷ xs) n ≡ None → x.number ≢ n
not_first x xs n none same = none_some _ x none (cond-true _ (Some x) (request_of xs n) (eq-true x.number n same))

none_behind : (x : Asking) (xs : List Asking) (n : ℕ) → request_of (x ∷ xs) n ≡ None → request_of xs n ≡ None
none_behind x xs n none = sym (cond-false _ (Some x) (request_of xs n) (eq-false x.number n (not_first x xs n none))) ∙ none

pub push_new : (rs : List Asking) (r : Asking) → request_of rs r.number ≡ None → request_of (rs ++ r ∷ []) r.number ≡ Some r
push_new [] r none = cond-true _ _ _ (eq-true r.number r.number refl)
push_new (x ∷ xs) r none = cond-false _ _ _ (eq-false x.number r.number (not_first x xs r.number none)) ∙ push_new xs r (none_behind x xs r.number none)

pub distinct_push : (rs : List Asking) (r : Asking) → Distinct rs → request_of rs r.number ≡ None → Distinct (rs ++ r ∷ [])
distinct_push [] r once none = (refl, tt)
distinct_push (x ∷ xs) r once none = (
  push_other xs r x.number (λ e. not_first x xs r.number none (sym e)) ∙ once.0,
  distinct_push xs r once.1 (none_behind x xs r.number none),
)

removed_other : (rs : List Asking) (k : ℕ) (r : Asking) (n : ℕ) → slice_get rs k ≡ Some r → r.number ≢ n
    → request_of (remove rs k) n ≡ request_of rs n
removed_other [] k r n e other = absurd cc
removed_other (x ∷ xs) zero r n e other =
    let same = some_same x r e in
    sym (cond-false _ (Some x) (request_of xs n) (eq-false x.number n (λ is. other (sym (ap (λ (y : Asking). y.number) same) ∙ is))))
removed_other (x ∷ xs) (suc k) r n e other = elim (cases_eq x.number n) [
  | inl same ↦ (let t = eq-true x.number n same in cond-true _ _ _ t ∙ sym (cond-true _ (Some x) (request_of xs n) t))
  | inr differ ↦ (let t = eq-false x.number n differ in cond-false _ _ _ t ∙ (removed_other xs k r n e other ∙ sym (cond-false _ (Some x) (request_of xs n) t)))
]

none_removed : (rs : List Asking) (k : ℕ) (n : ℕ) → request_of rs n ≡ None → request_of (remove rs k) n ≡ None
none_removed [] zero n none = refl
none_removed [] (suc k) n none = refl
none_removed (x ∷ xs) zero n none = none_behind x xs n none
none_removed (x ∷ xs) (suc k) n none = cond-false _ _ _ (eq-false x.number n (not_first x xs n none)) ∙ none_removed xs k n (none_behind x xs n none)

distinct_removed : (rs : List Asking) (k : ℕ) → Distinct rs → Distinct (remove rs k)
distinct_removed [] zero once = tt
distinct_removed [] (suc k) once = tt
distinct_removed (x ∷ xs) zero once = once.1
distinct_removed (x ∷ xs) (suc k) once = (none_removed xs k x.number once.0, distinct_removed xs k once.1)

removed_same : (rs : List Asking) (k : ℕ) (r : Asking) → Distinct rs → slice_get rs k ≡ Some r → request_of (remove rs k) r.number ≡ None
removed_same [] k r once e = absurd cc
removed_same (x ∷ xs) zero r once e = (let same = some_same x r e in ap (request_of xs) (sym (ap (λ (y : Asking). y.number) same)) ∙ once.0)
removed_same (x ∷ xs) (suc k) r once e =
    let there = found_at xs k r once.1 e in
    let other : x.number ≢ r.number = (λ same. none_some _ r (ap (request_of xs) (sym same) ∙ once.0) there) in
    cond-false _ _ _ (eq-false x.number r.number other) ∙ removed_same xs k r once.1 e

-- ---- from event to event

-- nothing is in flight under a number that wasn't given
pub not_yet : (ps : List Checked) (h : List Event) → Legal ps h → (n : ℕ) → given h < n → open_op h n ≡ None
not_yet ps h legal n above = none_if (open_op h n) (λ f is.
    let a = awaited ps h legal n f is in
    let few = (standing_flight ps h legal f.txn a.s a.r a.is a.waits).0 in
    omega (arith, few, above, a.number))

asking_none : (n : ℕ) (o : Option Flight) → o ≡ None → asking_by n o ≡ None
asking_none n o e = ap (asking_by n) e

now_sent : (r : Asking) (m : ℕ) (before : Option Flight) → r.number ≡ m
    → Some r ≡ asking_by m (if r.number == m then Some (flight r.txn r.op) else before)
now_sent r m before same =
    let it : asking_by m (if r.number == m then Some (flight r.txn r.op) else before) ≡ asking_by m
    (Some (flight r.txn r.op)) = ap (asking_by m) (cond-true _ _ _ (eq-true r.number m same)) in
    ap (λ (k : ℕ). let a : Asking = record { txn = r.txn; number = k; op = r.op } in Some a) same ∙ sym it

sent_each : (rs : List Asking) (h : List Event) (r : Asking) → AreWaiting rs h → open_op h r.number ≡ None → (m : ℕ)
    → request_of (rs ++ r ∷ []) m ≡ asking_by m (if r.number == m then Some (flight r.txn r.op) else open_op h m)
sent_each rs h r w none m = elim (cases_eq r.number m) [
  | inl same ↦ ap (request_of (rs ++ r ∷ [])) (sym same) ∙ (push_new rs r (w.each r.number ∙ asking_none r.number _ none) ∙ now_sent r m (open_op h m) same)
  | inr other ↦ push_other rs r m other
      ∙ (w.each m ∙ ap (asking_by m) (sym (cond-false _ (Some (flight r.txn r.op)) (open_op h m)
      (eq-false r.number m other))))
]

pub waiting_asked : (ps : List Checked) (rs : List Asking) (h : List Event) (r : Asking) → Legal ps h
    → AreWaiting rs h → r.number ≡ given h + 1 → AreWaiting (rs ++ r ∷ []) (Ask r.txn r.number r.op ∷ h)
waiting_asked ps rs h r legal w next =
    let none = not_yet ps h legal r.number (omega (arith, next)) in
    record { each = sent_each rs h r w none; once = distinct_push rs r w.once (w.each r.number ∙ asking_none r.number _ none) }

pub waiting_undone : (ps : List Checked) (rs : List Asking) (h : List Event) (r : Asking) → Legal ps h
    → AreWaiting rs h → r.number ≡ given h + 1 → AreWaiting (rs ++ r ∷ []) (Undo r.txn r.number r.op ∷ h)
waiting_undone ps rs h r legal w next =
    let none = not_yet ps h legal r.number (omega (arith, next)) in
    record { each = sent_each rs h r w none; once = distinct_push rs r w.once (w.each r.number ∙ asking_none r.number _ none) }

answered_each : (rs : List Asking) (h : List Event) (k t : ℕ) (r : Asking) (said : Said) → AreWaiting rs h
    → slice_get rs k ≡ Some r → (m : ℕ)
    → request_of (remove rs k) m ≡ asking_by m (open_op (Answer t r.number said ∷ h) m)
answered_each rs h k t r said w at m = elim (cases_eq r.number m) [
  | inl same ↦ ap (request_of (remove rs k)) (sym same)
      ∙ (removed_same rs k r w.once at
      ∙ sym (asking_none m _ (cond-true _ None (open_op h m) (eq-true r.number m same))))
  | inr other ↦ removed_other rs k r m at other ∙ (w.each m ∙ ap (asking_by m) (sym (cond-false _ None (open_op h m) (eq-false r.number m other))))
]

pub waiting_answered : (rs : List Asking) (h : List Event) (k t : ℕ) (r : Asking) (said : Said) → AreWaiting rs h
    → slice_get rs k ≡ Some r → AreWaiting (remove rs k) (Answer t r.number said ∷ h)
waiting_answered rs h k t r said w at = record { each = answered_each rs h k t r said w at; once = distinct_removed rs k w.once }

-- no request is open where no transaction is
pub waiting_none : (ps : List Checked) (h : List Event) → Legal ps h → total each_one h ≡ 0 → AreWaiting [] h
waiting_none ps h legal none = record {
  each = λ n. sym (asking_none n _ (none_if (open_op h n) (λ f is.
      let a = awaited ps h legal n f is in
      let part = total-part each_one ps h legal f.txn a.s a.is in
      omega (arith, part, none))));
  once = tt;
}
