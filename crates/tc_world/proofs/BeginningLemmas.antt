-- The transactions that were admitted before the oldest event of a log.
use Rattle.std.proofs.Common.{◌≡◌, ℕ, ◌+◌, ◌<◌, ◌≤◌, List, [], ◌∷◌, ◌++◌, length, Option, Some, None, arith, refl, sym, ◌∙◌, ap, inl, inr}
use Rattle.std.specs.Prelude.{slice_get, reverse}
use Rattle.std.proofs.lemmas.Bool.{cases_eq}
use Rattle.std.proofs.lemmas.List.{reverse-append, length-reverse}
use Rattle.verifier.specs.Checked.{Checked}
use Rattle.tc_log.specs.declared.event.Event.{Event}
use Rattle.tc_log.specs.declared.event.Event.TheVariants.{Admit, Checkpoint}
use Rattle.history.specs.Calls.{admitted, txn_of}
use Rattle.transactions.specs.Legal.{Legal}
use Rattle.transactions.specs.Standing.{Standing, standing}
use Rattle.transactions.proofs.StandingLemmas.{none_some, standing-other, standing-kept}
use Rattle.tc_world.specs.Beginning.{stands_for, admitted_before}
use Rattle.tc_world.proofs.Bases.{none_behind}

pub before_admitted : (ps : List Checked) (h : List Event) → Legal ps h → admitted_before h ≤ admitted h
before_admitted ps [] legal = omega arith
before_admitted ps (Admit t p args ∷ h) legal = (let few = before_admitted ps h legal.1 in omega (arith, few))
before_admitted ps (Checkpoint before numbers ∷ h) legal = omega arith
before_admitted ps (_ ∷ h) legal = before_admitted ps h legal.1

still_none : (h : List Event) (e : Event) (t : ℕ) (s : Standing) → standing h (txn_of e) ≡ Some s → standing h t ≡ None
    → standing (e ∷ h) t ≡ None
still_none h e t s is was = elim (cases_eq (txn_of e) t) [
  | inl own ↦ absurd (none_some (standing h t) s was (ap (standing h) (sym own) ∙ is))
  | inr other ↦ standing-other e h t other ∙ was
]

-- none of them is open
pub none_before : (ps : List Checked) (h : List Event) → Legal ps h → (t : ℕ) → t ≤ admitted_before h → standing h t ≡ None
none_before ps [] legal t low = refl
none_before ps (Admit u p args ∷ h) legal t low =
    let next = legal.0.next in
    let few = before_admitted ps h legal.1 in
    standing-other (Admit u p args) h t (λ own. absurd (omega (arith, next, few, low, own)))
    ∙ none_before ps h legal.1 t low
none_before ps (Checkpoint before numbers ∷ h) legal t low =
    standing-kept (Checkpoint before numbers) h t (λ was. refl) ∙ ap (λ (x : List Event). standing x t) legal.0.oldest
none_before ps (e ∷ h) legal t low = still_none h e t legal.0.s legal.0.is (none_before ps h legal.1 t low)

-- a log's first events admitted no more since it began
pub fewer_since : (ps : List Checked) (later first : List Event) → Legal ps (later ++ first)
    → admitted first + admitted_before (later ++ first) ≤ admitted (later ++ first) + admitted_before first
fewer_since ps [] first legal = omega arith
fewer_since ps (Admit t p args ∷ later) first legal = (let ih = fewer_since ps later first legal.1 in omega (arith, ih))
fewer_since ps (Checkpoint before numbers ∷ later) first legal =
    let none : admitted first ≡ 0 = ap admitted (none_behind later first legal.0.oldest) in
    omega (arith, none)
fewer_since ps (_ ∷ later) first legal = fewer_since ps later first legal.1

-- ---- the oldest event

abbrev pub before_in : Option Event → ℕ
before_in None = 0
before_in (Some e) = stands_for e

abbrev pub oldest : List Event → Option Event
oldest [] = None
oldest (e ∷ []) = Some e
oldest (e ∷ d ∷ h) = oldest (d ∷ h)

oldest_before : (ps : List Checked) (h : List Event) → Legal ps h → admitted_before h ≡ before_in (oldest h)
oldest_before ps [] legal = refl
oldest_before ps (Checkpoint before numbers ∷ []) legal = refl
oldest_before ps (_ ∷ []) legal = refl
oldest_before ps (Checkpoint before numbers ∷ d ∷ h) legal = absurd (let bad : d ∷ h ≡ [] = legal.0.oldest in cc)
oldest_before ps (_ ∷ d ∷ h) legal = oldest_before ps (d ∷ h) legal.1

front_of : (xs ys : List Event) → 0 < length xs → slice_get (xs ++ ys) 0 ≡ slice_get xs 0
front_of [] ys some = absurd (omega (arith, some))
front_of (x ∷ xs) ys some = refl

first_is : (h : List Event) → slice_get (reverse h) 0 ≡ oldest h
first_is [] = refl
first_is (e ∷ []) = refl
first_is (e ∷ d ∷ h) =
    let many : length (reverse (d ∷ h)) ≡ length (d ∷ h) = length-reverse (d ∷ h) in
    ap (λ (xs : List Event). slice_get xs 0) (reverse-append (e ∷ []) (d ∷ h))
    ∙ (front_of (reverse (d ∷ h)) (e ∷ []) (omega (arith, many)) ∙ first_is (d ∷ h))

-- as the event at place 0 tells
pub before_told : (ps : List Checked) (h : List Event) (o : Option Event) → Legal ps h → o ≡ slice_get (reverse h) 0
    → before_in o ≡ admitted_before h
before_told ps h o legal is = ap before_in (is ∙ first_is h) ∙ sym (oldest_before ps h legal)
