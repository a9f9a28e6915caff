-- What is given up when a world is closed.
use Rattle.std.proofs.Common.{◌≡◌, ℕ, Bool, true, false, ◌||◌, List, [], ◌∷◌, ◌++◌, length, Option, Some, None, arith}
use Rattle.std.proofs.Common.{refl, sym, ◌∙◌, ap, subst, zero, suc, inl, inr, ◌==◌}
use Rattle.std.specs.Prelude.{slice_get}
use Rattle.std.proofs.Math.Bool.{or-false}
use Rattle.std.proofs.lemmas.Bool.{cases_eq, cond-true, cond-false}
use Rattle.request_numbers.specs.Given.{holds}
use Rattle.tc_log.specs.declared.event.Event.{Event}
use Rattle.history.specs.Flight.{Flight, open_op, is_flight, is_open}
use Rattle.transactions.specs.Legal.{Legal}
use Rattle.transactions.specs.Standing.{standing}
use Rattle.transactions.proofs.StandingLemmas.{eq-true, eq-false}
use Rattle.transactions.proofs.Flights.{flight}
use Rattle.transactions.proofs.Headline.{awaited}
use Rattle.tc_core.specs.Core.{Core, Asking}
use Rattle.tc_core.specs.Doubts.{with_number, with_number_by}
use Rattle.tc_core.specs.GivingUp.{IsOpenHere, with_given_up}
use Rattle.tc_world.specs.Waiting.{asking_by, request_of, AreWaiting}
use Rattle.tc_world.proofs.Requests.{IsThere}
use Rattle.tc_world.proofs.Messages.{in_the_air}

-- ---- a number that is added

holds_push : (ns : List ℕ) (m n : ℕ) → holds n (ns ++ m ∷ []) ≡ (holds n ns || (m == n))
holds_push [] m n = or-false (m == n)
holds_push (x ∷ ns) m n = ap (λ (b : Bool). (x == n) || b) (holds_push ns m n) ∙ sym (or_or (x == n) (holds n ns) (m == n))
  where
    or_or : (a b c : Bool) → ((a || b) || c) ≡ (a || (b || c))
    or_or true b c = refl
    or_or false b c = refl

holds_with : (m n : ℕ) (ns : List ℕ) → holds n (with_number m ns) ≡ (holds n ns || (m == n))
holds_with m n ns = by (holds m ns) refl
  where
    there : (b : Bool) → (m == n) ≡ b → holds m ns ≡ true → holds n ns ≡ (holds n ns || b)
    there false e is = sym (or-false (holds n ns))
    there true e is = elim (cases_eq m n) [
      | inl same ↦ (let mine : holds n ns ≡ true = ap (λ (k : ℕ). holds k ns) (sym same) ∙ is in mine ∙ sym (ap (λ (b : Bool). b || true) mine))
      | inr other ↦ (let bad : true ≡ false = sym e ∙ eq-false m n other in absurd cc)
    ]

    by : (b : Bool) → holds m ns ≡ b → holds n (with_number_by b m ns) ≡ (holds n ns || (m == n))
    by true is = there (m == n) refl is
    by false is = holds_push ns m n

-- ---- the requests that are left

abbrev is_request : Option Asking → Bool
is_request None = false
is_request (Some r) = true

-- one of them has the number
abbrev pub is_asked : List Asking → ℕ → Bool
is_asked rs n = is_request (request_of rs n)

asked_push : (rs : List Asking) (r : Asking) (n : ℕ) → is_asked (rs ++ r ∷ []) n ≡ (is_asked rs n || (r.number == n))
asked_push [] r n = elim (cases_eq r.number n) [
  | inl same ↦ (let t = eq-true r.number n same in ap is_request (cond-true _ (Some r) None t) ∙ sym t)
  | inr other ↦ (let t = eq-false r.number n other in ap is_request (cond-false _ (Some r) None t) ∙ sym t)
]
asked_push (x ∷ rs) r n = elim (cases_eq x.number n) [
  | inl same ↦
      let t = eq-true x.number n same in
      ap is_request (cond-true _ (Some x) (request_of (rs ++ r ∷ []) n) t)
      ∙ sym (ap (λ (o : Option Asking). is_request o || (r.number == n)) (cond-true _ (Some x) (request_of rs n) t))
  | inr other ↦
      let t = eq-false x.number n other in
      ap is_request (cond-false _ (Some x) (request_of (rs ++ r ∷ []) n) t)
      ∙ (asked_push rs r n ∙ sym (ap (λ (o : Option Asking). is_request o || (r.number == n))
      (cond-false _ (Some x) (request_of rs n) t)))
]

asked_none : (rs : List Asking) (n : ℕ) → length rs ≡ 0 → is_asked rs n ≡ false
asked_none [] n none = refl
asked_none (r ∷ rs) n none = absurd (omega (arith, none))

asked_open : (rs : List Asking) (h : List Event) (n : ℕ) → AreWaiting rs h → is_asked rs n ≡ is_open h n
asked_open rs h n w = ap is_request (w.each n) ∙ by (open_op h n)
  where
    by : (o : Option Flight) → is_request (asking_by n o) ≡ is_flight o
    by None = refl
    by (Some f) = refl

last_there : (rs : List Asking) (r : Asking) → IsThere (rs ++ r ∷ []) r
last_there [] r = record { k = 0; at = refl }
last_there (x ∷ rs) r = (let ih = last_there rs r in record { k = suc ih.k; at = ih.at })

got_before : (rs : List Asking) (r q : Asking) (k : ℕ) → slice_get rs k ≡ Some q → slice_get (rs ++ r ∷ []) k ≡ Some q
got_before [] r q k at = absurd cc
got_before (x ∷ rs) r q zero at = at
got_before (x ∷ rs) r q (suc k) at = got_before rs r q k at

-- ---- giving up one after another

-- some requests are left, each open, and the numbers of the others are given up
pub record GivesUp (was now : Core) (left : List Asking) : Type 0 where
  pub kept : now ≡ record was { given_up = now.given_up }
  pub given_up : (n : ℕ) → (holds n now.given_up || is_asked left n) ≡ (holds n was.given_up || is_open was.events n)
  pub open_yet : (k : ℕ) (r : Asking) → slice_get left k ≡ Some r → IsOpenHere was r

pub none_yet : (c d : Core) (rs : List Asking) → c ≡ d → Legal c.procs c.events → AreWaiting rs c.events → GivesUp d c rs
none_yet c d rs same legal w = subst (λ (x : Core). GivesUp x c rs) same (record {
  kept = refl;
  given_up = λ n. ap (λ (b : Bool). holds n c.given_up || b) (asked_open rs c.events n w);
  open_yet = λ k r at.
      let a = awaited c.procs c.events legal r.number (flight r.txn r.op) (in_the_air rs c.events k r w at) in
      record { s = a.s; is = a.is; sent = a.r; waits = a.waits; same_number = a.number; same_op = a.op };
})

open_still : (c d : Core) (r : Asking) → d.events ≡ c.events → IsOpenHere c r → IsOpenHere d r
open_still c d r same o = record {
  s = o.s;
  is = ap (λ (h : List Event). standing h r.txn) same ∙ o.is;
  sent = o.sent;
  waits = o.waits;
  same_number = o.same_number;
  same_op = o.same_op;
}

turned : (a e i : Bool) → ((a || e) || i) ≡ (a || (i || e))
turned true e i = refl
turned false true true = refl
turned false true false = refl
turned false false true = refl
turned false false false = refl

kept_still : (was now next : Core) (n : ℕ) → now ≡ record was { given_up = now.given_up } → next ≡ with_given_up now n
    → next ≡ record was { given_up = next.given_up }
kept_still was now next n kept same =
    let numbers : with_number n now.given_up ≡ next.given_up = sym (ap (λ (c : Core). c.given_up) same) in
    let mine : next ≡ record now { given_up = next.given_up } = same ∙ ap (λ (ns : List ℕ). let c : Core = record now { given_up = ns } in c) numbers in
    mine ∙ ap (λ (c : Core). let d : Core = record c { given_up = next.given_up } in d) kept

pub one_more : (was now next : Core) (left rest : List Asking) (r : Asking) → GivesUp was now left
    → left ≡ rest ++ r ∷ [] → (IsOpenHere now r → next ≡ with_given_up now r.number) → GivesUp was next rest
one_more was now next left rest r g is gives =
    let there = last_there rest r in
    let mine : IsOpenHere was r = g.open_yet there.k r (ap (λ (xs : List Asking). slice_get xs there.k) is ∙ there.at) in
    let same : next ≡ with_given_up now r.number = gives (open_still was now r (ap (λ (c : Core). c.events) g.kept) mine) in
    record {
      kept = kept_still was now next r.number g.kept same;
      given_up = λ n.
          let added : holds n next.given_up ≡ (holds n now.given_up || (r.number == n)) = ap
          (λ (c : Core). holds n c.given_up) same ∙ holds_with r.number n now.given_up in
          let split : is_asked left n ≡ (is_asked rest n || (r.number == n)) = ap (λ (xs : List Asking). is_asked xs n) is ∙ asked_push rest r n in
          ap (λ (b : Bool). b || is_asked rest n) added
          ∙ (turned (holds n now.given_up) (r.number == n) (is_asked rest n)
          ∙ (sym (ap (λ (b : Bool). holds n now.given_up || b) split) ∙ g.given_up n));
      open_yet = λ k q at. g.open_yet k q (ap (λ (xs : List Asking). slice_get xs k) is ∙ got_before rest r q k at);
    }

pub all_given_up : (was now : Core) (left : List Asking) (n : ℕ) → GivesUp was now left → length left ≡ 0
    → holds n now.given_up ≡ (holds n was.given_up || is_open was.events n)
all_given_up was now left n g none = sym (or-false (holds n now.given_up))
    ∙ (sym (ap (λ (b : Bool). holds n now.given_up || b) (asked_none left n none)) ∙ g.given_up n)
