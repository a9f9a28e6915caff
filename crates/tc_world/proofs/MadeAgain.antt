-- The requests of a state that came back, made again, one transaction after another.
use Rattle.std.proofs.Common.{◌≡◌, ◌≢◌, ℕ, ◌+◌, ◌<◌, ◌≤◌, true, false, List, [], ◌∷◌, ◌++◌, length, length-append}
use Rattle.std.proofs.Common.{Option, Some, None, arith, refl, sym, ◌∙◌, ap, subst, inl, inr, if◌then◌else◌}
use Rattle.std.specs.Prelude.{nat_lt, option_to_list}
use Rattle.std.proofs.lemmas.Bool.{cases_eq, cases_lt, cond-true, cond-false}
use Rattle.std.proofs.lemmas.Bool.Decides.{nat_tests}
use Rattle.std.proofs.lemmas.List.{append-nil}
use Rattle.verifier.specs.Checked.{Checked}
use Rattle.tc_log.specs.declared.event.Event.{Event}
use Rattle.history.specs.Calls.{admitted}
use Rattle.history.specs.Flight.{Flight, open_op}
use Rattle.transactions.specs.Legal.{Legal}
use Rattle.transactions.specs.declared.Sent.{Sent}
use Rattle.transactions.specs.Standing.{Standing, standing}
use Rattle.transactions.proofs.StandingLemmas.{some_same, none_some, open-serial}
use Rattle.transactions.proofs.Flights.{standing_flight, flight}
use Rattle.transactions.proofs.Headline.{awaited}
use Rattle.tc_core.specs.Core.{Asking}
use Rattle.tc_core.specs.Recovery.{asking_in}
use Rattle.tc_core.specs.Recovery.{asking_by as sent_by}
use Rattle.tc_world.specs.Beginning.{admitted_before}
use Rattle.tc_world.specs.Waiting.{asking, asking_by, request_of, Distinct, AreWaiting}
use Rattle.tc_world.proofs.BeginningLemmas.{none_before}
use Rattle.tc_world.proofs.Requests.{push_other, push_new, distinct_push}

-- the request under a number, where it is of one of the first k transactions
abbrev pub asking_up_to : ℕ → ℕ → Option Flight → Option Asking
asking_up_to k n None = None
asking_up_to k n (Some f) = if nat_lt k f.txn then None else Some (asking n f)

-- the requests of the first k transactions
pub record AreMade (rs : List Asking) (h : List Event) (k : ℕ) : Type 0 where
  pub each : (n : ℕ) → request_of rs n ≡ asking_up_to k n (open_op h n)
  pub once : Distinct rs
  pub few : length rs + admitted_before h ≤ k

lt_is : (a b : ℕ) → a < b → nat_lt a b ≡ true
lt_is a b less = grind (arith, nat_tests)

lt_not : (a b : ℕ) → b ≤ a → nat_lt a b ≡ false
lt_not a b le = grind (arith, nat_tests)

later : (k n : ℕ) (f : Flight) → k < f.txn → asking_up_to k n (Some f) ≡ None
later k n f less = cond-true (nat_lt k f.txn) None (Some (asking n f)) (lt_is k f.txn less)

made : (k n : ℕ) (f : Flight) → f.txn ≤ k → asking_up_to k n (Some f) ≡ Some (asking n f)
made k n f le = cond-false (nat_lt k f.txn) None (Some (asking n f)) (lt_not k f.txn le)

-- what is in flight is of a transaction that was admitted
of_admitted : (ps : List Checked) (h : List Event) → Legal ps h → (n : ℕ) (f : Flight) → open_op h n ≡ Some f → (0 < f.txn) × (f.txn ≤ admitted h)
of_admitted ps h legal n f is = (let a = awaited ps h legal n f is in open-serial ps h legal f.txn a.s a.is)

-- of those that were admitted before the log began there are none
pub none_made : (ps : List Checked) (h : List Event) (rs : List Asking) → Legal ps h → rs ≡ [] → AreMade rs h (admitted_before h)
none_made ps h rs legal none =
    subst (λ (xs : List Asking). AreMade xs h (admitted_before h)) (sym none) (record { each = λ n. by n (open_op h n) refl; once = tt; few = omega arith })
  where
    since : (n : ℕ) (f : Flight) → open_op h n ≡ Some f → admitted_before h < f.txn
    since n f is =
        let a = awaited ps h legal n f is in
        elim (cases_lt (admitted_before h) f.txn) [
          | inl above ↦ above
          | inr under ↦ absurd (none_some (standing h f.txn) a.s (none_before ps h legal f.txn (omega (arith, under))) a.is)
        ]

    by : (n : ℕ) (o : Option Flight) → open_op h n ≡ o → request_of [] n ≡ asking_up_to (admitted_before h) n o
    by n None is = refl
    by n (Some f) is = sym (later (admitted_before h) n f (since n f is))

pub all_made : (ps : List Checked) (h : List Event) (rs : List Asking) (k : ℕ) → Legal ps h → admitted h ≤ k → AreMade rs h k → AreWaiting rs h
all_made ps h rs k legal all m = record { each = λ n. m.each n ∙ by n (open_op h n) refl; once = m.once }
  where
    by : (n : ℕ) (o : Option Flight) → open_op h n ≡ o → asking_up_to k n o ≡ asking_by n o
    by n None is = refl
    by n (Some f) is = made k n f (let few = (of_admitted ps h legal n f is).1 in omega (arith, few, all))

-- ---- one transaction more

still_up : (k n : ℕ) (o : Option Flight) → ((f : Flight) → o ≡ Some f → f.txn ≢ k + 1) → asking_up_to k n o ≡ asking_up_to (k + 1) n o
still_up k n None other = refl
still_up k n (Some f) other =
    let differ : f.txn ≢ k + 1 = other f refl in
    elim (cases_lt k f.txn) [
      | inl less ↦ (let more : k + 1 < f.txn = omega (arith, less, differ) in later k n f less ∙ sym (later (k + 1) n f more))
      | inr le ↦ (let more : f.txn ≤ k + 1 = omega (arith, le) in made k n f le ∙ sym (made (k + 1) n f more))
    ]

-- the transaction waits for this
record IsAsked (t : ℕ) (st : Option Standing) (r : Asking) : Type 0 where
  s : Standing
  q : Sent
  is : st ≡ Some s
  waits : s.sent ≡ Some q
  same : r ≡ record { txn = t; number = q.number; op = q.op }

asked_by : (t : ℕ) (s : Standing) (o : Option Sent) (r : Asking) → s.sent ≡ o → sent_by t o ≡ Some r → IsAsked t (Some s) r
asked_by t s None r waits e = absurd (none_some _ r refl e)
asked_by t s (Some q) r waits e = record {
  s = s;
  q = q;
  is = refl;
  waits = waits;
  same = some_same r (let a : Asking = record { txn = t; number = q.number; op = q.op } in a) (sym e);
}

asked_of : (t : ℕ) (st : Option Standing) (r : Asking) → asking_in t st ≡ Some r → IsAsked t st r
asked_of t None r e = absurd (none_some _ r refl e)
asked_of t (Some s) r e = asked_by t s s.sent r refl e

-- a transaction that waits for nothing has nothing in flight
idle_has_none : (ps : List Checked) (h : List Event) (t : ℕ) → Legal ps h → asking_in t (standing h t) ≡ None
    → (n : ℕ) (f : Flight) → open_op h n ≡ Some f → f.txn ≢ t
idle_has_none ps h t legal none n f flies own =
    let a = awaited ps h legal n f flies in
    let here : standing h t ≡ Some a.s = ap (standing h) (sym own) ∙ a.is in
    none_some (asking_in t (standing h t)) _ none (ap (asking_in t) here ∙ ap (sent_by t) a.waits)

-- one that waits has that in flight
waiting_has_one : (ps : List Checked) (h : List Event) (t : ℕ) (r : Asking) → Legal ps h → IsAsked t (standing h t) r
    → (n : ℕ) (f : Flight) → open_op h n ≡ Some f → r.number ≢ n → f.txn ≢ t
waiting_has_one ps h t r legal x n f flies other own =
    let a = awaited ps h legal n f flies in
    let one : x.s ≡ a.s = some_same x.s a.s (sym x.is ∙ (ap (standing h) (sym own) ∙ a.is)) in
    let two : x.q ≡ a.r = some_same x.q a.r (sym x.waits ∙ (ap (λ (z : Standing). z.sent) one ∙ a.waits)) in
    other (ap (λ (z : Asking). z.number) x.same ∙ (ap (λ (z : Sent). z.number) two ∙ a.number))

made_none : (ps : List Checked) (h : List Event) (rs : List Asking) (k : ℕ) → Legal ps h → AreMade rs h k
    → asking_in (k + 1) (standing h (k + 1)) ≡ None → AreMade rs h (k + 1)
made_none ps h rs k legal m none = record {
  each = λ n. m.each n ∙ still_up k n (open_op h n) (λ f is. idle_has_none ps h (k + 1) legal none n f is);
  once = m.once;
  few = (let few = m.few in omega (arith, few));
}

made_some : (ps : List Checked) (h : List Event) (rs : List Asking) (k : ℕ) (r : Asking) → Legal ps h → AreMade rs h k
    → IsAsked (k + 1) (standing h (k + 1)) r → AreMade (rs ++ r ∷ []) h (k + 1)
made_some ps h rs k r legal m x =
    let f : Flight = flight (k + 1) x.q.op in
    let number : x.q.number ≡ r.number = sym (ap (λ (z : Asking). z.number) x.same) in
    let flies : open_op h r.number ≡ Some f = ap (open_op h) (sym number) ∙ (standing_flight ps h legal (k + 1) x.s x.q x.is x.waits).1 in
    let absent : request_of rs r.number ≡ None = m.each r.number ∙ (ap (asking_up_to k r.number) flies ∙ later k r.number f (omega arith)) in
    let it : asking r.number f ≡ r = ap (λ (j : ℕ). let a : Asking = record { txn = k + 1; number = j; op = x.q.op } in a) (sym number) ∙ sym x.same in
    let there : asking_up_to (k + 1) r.number (open_op h r.number) ≡ Some r = ap (asking_up_to (k + 1) r.number) flies
    ∙ (made (k + 1) r.number f (omega arith) ∙ ap (λ (z : Asking). Some z) it) in
    record {
      each = λ n. elim (cases_eq r.number n) [
        | inl same ↦ subst (λ (j : ℕ). request_of (rs ++ r ∷ []) j ≡ asking_up_to (k + 1) j (open_op h j)) same (push_new rs r absent ∙ sym there)
        | inr other ↦ push_other rs r n other ∙ (m.each n ∙ still_up k n (open_op h n) (λ g is. waiting_has_one ps h (k + 1) r legal x n g is other))
      ];
      once = distinct_push rs r m.once absent;
      few = (let few = m.few in let more : length (rs ++ r ∷ []) ≡ length rs + 1 = length-append rs (r ∷ []) in omega (arith, few, more));
    }

pub one_made : (ps : List Checked) (h : List Event) (rs : List Asking) (k : ℕ) (o : Option Asking) → Legal ps h
    → AreMade rs h k → o ≡ asking_in (k + 1) (standing h (k + 1)) → AreMade (rs ++ option_to_list o) h (k + 1)
one_made ps h rs k None legal m is = subst (λ (xs : List Asking). AreMade xs h (k + 1)) (sym (append-nil rs)) (made_none ps h rs k legal m (sym is))
one_made ps h rs k (Some r) legal m is = made_some ps h rs k r legal m (asked_of (k + 1) (standing h (k + 1)) r (sym is))
