-- How one more event changes where the transactions stand.
use Rattle.std.proofs.Common.{◌≡◌, ◌≢◌, ℕ, ◌+◌, ◌-◌, ◌<◌, ◌≤◌, Bool, true, false, List, [], ◌∷◌, Option, Some}
use Rattle.std.specs.Prelude.{if◌then◌else◌}
use Rattle.std.proofs.Common.{None, arith, refl, sym, ◌∙◌, ap, subst, zero, suc, inl, inr, ◌==◌}
use Rattle.std.proofs.lemmas.Bool.Decides.{nat_tests}
use Rattle.std.proofs.lemmas.Bool.{cases_eq, cases_lt}
use Rattle.access_slots.specs.declared.op.Op.{Op}
use Rattle.access_slots.specs.declared.op.Said.{Said}
use Rattle.verifier.specs.Checked.{Checked}
use Rattle.tc_log.specs.declared.event.Event.{Event}
use Rattle.tc_log.specs.declared.event.Event.TheVariants.{Admit, Ask, Answer, Undo, End, Checkpoint}
use Rattle.history.specs.Calls.{Call, admitted, txn_of}
use Rattle.transactions.specs.Standing.{Standing, standing, moved, fresh, asked, undone, answered}
use Rattle.transactions.specs.Room.{weighed, total_to, total}
use Rattle.transactions.specs.Legal.{Legal, Allowed, CanAdmit, CanAsk, CanAnswer, CanUndo}

pub eq-true : (a b : ℕ) → a ≡ b → (a == b) ≡ true
eq-true a b e = grind (arith, nat_tests)

pub eq-false : (a b : ℕ) → a ≢ b → (a == b) ≡ false
eq-false a b e = grind (arith, nat_tests)

pub some_same : {X : Type 0} (x y : X) → Some x ≡ Some y → x ≡ y
some_same x y e = cc

pub none_some : {X : Type 0} (o : Option X) (x : X) → o ≡ None → o ≡ Some x → ⊥
none_some o x e f = (let g : None ≡ Some x = sym e ∙ f in cc)

-- the event's own transaction
pub standing-same : (e : Event) (h : List Event) (t : ℕ) → txn_of e ≡ t → standing (e ∷ h) t ≡ moved e (standing h t)
standing-same e h t own = rw (eq-true (txn_of e) t own) refl

-- any other transaction stands where it stood
pub standing-other : (e : Event) (h : List Event) (t : ℕ) → txn_of e ≢ t → standing (e ∷ h) t ≡ standing h t
standing-other e h t other = rw (eq-false (txn_of e) t other) refl

-- an event that makes nothing of its transaction, as one with which a log begins, leaves each where it stood
pub standing-kept : (e : Event) (h : List Event) (t : ℕ) → ((was : Option Standing) → moved e was ≡ was) → standing (e ∷ h) t ≡ standing h t
standing-kept e h t nothing = by (txn_of e == t)
  where
    by : (b : Bool) → (if b then moved e (standing h t) else standing h t) ≡ standing h t
    by true = nothing (standing h t)
    by false = refl

-- an event that is no admission is of an open transaction, or the log begins with it
pub data Acts (ps : List Checked) (h : List Event) (e : Event) : Type 0 where
  admits_one : txn_of e ≡ admitted h + 1 → admitted (e ∷ h) ≡ admitted h + 1 → Acts ps h e
  goes_on : (s : Standing) → standing h (txn_of e) ≡ Some s → admitted (e ∷ h) ≡ admitted h → Acts ps h e
  begins : (before numbers : ℕ) → e ≡ Checkpoint before numbers → h ≡ [] → Acts ps h e

pub acts : (ps : List Checked) (h : List Event) (e : Event) → Allowed ps h e → Acts ps h e
acts ps h (Admit t p args) a = admits_one a.next refl
acts ps h (Checkpoint before numbers) a = begins before numbers refl a.oldest
acts ps h _ a = goes_on a.s a.is refl

-- and then nobody is open
none_begun : (h : List Event) (e : Event) (before numbers t : ℕ) → e ≡ Checkpoint before numbers → h ≡ [] → standing (e ∷ h) t ≡ None
none_begun h e before numbers t is none = rw (is, none) (standing-kept (Checkpoint before numbers) [] t (λ was. refl))

above_by : (ps : List Checked) (h : List Event) (e : Event) (t : ℕ) → Acts ps h e → admitted (e ∷ h) < t
    → (admitted h < t → standing h t ≡ None) → standing (e ∷ h) t ≡ None
above_by ps h e t (admits_one next more) above ih =
    let other : txn_of e ≢ t = (λ own. absurd (omega (arith, next, more, above, own))) in
    standing-other e h t other ∙ ih (omega (arith, more, above))
above_by ps h e t (goes_on s is same) above ih =
    let was = ih (omega (arith, same, above)) in
    elim (cases_eq (txn_of e) t) [
      | inl own ↦ absurd (none_some (standing h t) s was (ap (standing h) (sym own) ∙ is))
      | inr other ↦ standing-other e h t other ∙ was
    ]
above_by ps h e t (begins before numbers is none) above ih = none_begun h e before numbers t is none

-- no transaction above the last admitted is open
pub standing-above : (ps : List Checked) (h : List Event) → Legal ps h → (t : ℕ) → admitted h < t → standing h t ≡ None
standing-above ps [] legal t above = refl
standing-above ps (e ∷ h) legal t above = above_by ps h e t (acts ps h e legal.0) above (λ more. standing-above ps h legal.1 t more)

zero_by : (ps : List Checked) (h : List Event) (e : Event) → Acts ps h e → standing h 0 ≡ None → standing (e ∷ h) 0 ≡ None
zero_by ps h e (admits_one next more) was = let other : txn_of e ≢ 0 = (λ own. absurd (omega (arith, next, own))) in standing-other e h 0 other ∙ was
zero_by ps h e (goes_on s is same) was =
    elim (cases_eq (txn_of e) 0) [
      | inl own ↦ absurd (none_some (standing h 0) s was (ap (standing h) (sym own) ∙ is))
      | inr other ↦ standing-other e h 0 other ∙ was
    ]
zero_by ps h e (begins before numbers is none) was = none_begun h e before numbers 0 is none

pub standing-zero : (ps : List Checked) (h : List Event) → Legal ps h → standing h 0 ≡ None
standing-zero ps [] legal = refl
standing-zero ps (e ∷ h) legal = zero_by ps h e (acts ps h e legal.0) (standing-zero ps h legal.1)

-- a fact of a fresh transaction that each event keeps is true of each open one
pub each_standing : (P : Standing → Type 0) (ps : List Checked)
    → ((h : List Event) (t : ℕ) (call : Call) → CanAdmit ps h t call → P (fresh call))
    → ((h : List Event) (t n : ℕ) (o : Op) (a : CanAsk ps h t n o) → P a.s → P (asked n o a.s))
    → ((h : List Event) (t n : ℕ) (said : Said) (a : CanAnswer ps h t n said) → P a.s → P (answered said a.s))
    → ((h : List Event) (t n : ℕ) (o : Op) (a : CanUndo ps h t n o) → P a.s → P (undone n o a.s))
    → (h : List Event) → Legal ps h → (t : ℕ) (s : Standing) → standing h t ≡ Some s → P s
each_standing P ps admit ask answer undo [] legal t s is = cc
each_standing P ps admit ask answer undo (Admit u p args ∷ h) legal t s is =
    elim (cases_eq u t) [
      | inl same ↦ subst P (some_same _ s (sym (standing-same (Admit u p args) h t same) ∙ is)) (admit h u (record { proc = p; args = args }) legal.0)
      | inr other ↦ each_standing P ps admit ask answer undo h legal.1 t s (sym (standing-other (Admit u p args) h t other) ∙ is)
    ]
each_standing P ps admit ask answer undo (Ask u n o ∷ h) legal t s is =
    elim (cases_eq u t) [
      | inl same ↦
          let a = legal.0 in
          let was : standing h t ≡ Some a.s = ap (standing h) (sym same) ∙ a.is in
          subst P (some_same _ s (sym (standing-same (Ask u n o) h t same ∙ ap (moved (Ask u n o)) was) ∙ is))
          (ask h u n o a (each_standing P ps admit ask answer undo h legal.1 t a.s was))
      | inr other ↦ each_standing P ps admit ask answer undo h legal.1 t s (sym (standing-other (Ask u n o) h t other) ∙ is)
    ]
each_standing P ps admit ask answer undo (Answer u n said ∷ h) legal t s is =
    elim (cases_eq u t) [
      | inl same ↦
          let a = legal.0 in
          let was : standing h t ≡ Some a.s = ap (standing h) (sym same) ∙ a.is in
          subst P (some_same _ s (sym (standing-same (Answer u n said) h t same ∙ ap (moved (Answer u n said)) was) ∙
          is)) (answer h u n said a (each_standing P ps admit ask answer undo h legal.1 t a.s was))
      | inr other ↦ each_standing P ps admit ask answer undo h legal.1 t s (sym (standing-other (Answer u n said) h t other) ∙ is)
    ]
each_standing P ps admit ask answer undo (Undo u n o ∷ h) legal t s is =
    elim (cases_eq u t) [
      | inl same ↦
          let a = legal.0 in
          let was : standing h t ≡ Some a.s = ap (standing h) (sym same) ∙ a.is in
          subst P (some_same _ s (sym (standing-same (Undo u n o) h t same ∙ ap (moved (Undo u n o)) was) ∙ is))
          (undo h u n o a (each_standing P ps admit ask answer undo h legal.1 t a.s was))
      | inr other ↦ each_standing P ps admit ask answer undo h legal.1 t s (sym (standing-other (Undo u n o) h t other) ∙ is)
    ]
each_standing P ps admit ask answer undo (End u outcome ∷ h) legal t s is =
    elim (cases_eq u t) [
      | inl same ↦ absurd (none_some _ s (standing-same (End u outcome) h t same) is)
      | inr other ↦ each_standing P ps admit ask answer undo h legal.1 t s (sym (standing-other (End u outcome) h t other) ∙ is)
    ]
each_standing P ps admit ask answer undo (e ∷ h) legal t s is =
    each_standing P ps admit ask answer undo h legal.1 t s (sym (standing-kept e h t (λ was. refl)) ∙ is)

-- a sum below the event's transaction stays
pub total_to-below : (w : Standing → ℕ) (e : Event) (h : List Event) (n : ℕ) → n < txn_of e → total_to w (e ∷ h) n ≡ total_to w h n
total_to-below w e h zero below = refl
total_to-below w e h (suc n) below =
    let other : txn_of e ≢ suc n = omega arith in
    let ih = total_to-below w e h n (omega arith) in
    rw (standing-other e h (suc n) other) (ap (λ k. k + weighed w (standing h (suc n))) ih)

-- a sum over the event's transaction changes by what it changes there
pub total_to-at : (w : Standing → ℕ) (e : Event) (h : List Event) (n : ℕ) → 0 < txn_of e → txn_of e ≤ n
    → total_to w (e ∷ h) n + weighed w (standing h (txn_of e)) ≡ total_to w h n + weighed w (moved e (standing h (txn_of e)))
total_to-at w e h zero low high = absurd (omega arith)
total_to-at w e h (suc n) low high =
    elim (cases_eq (txn_of e) (suc n)) [
      | inl same ↦
          let ih = total_to-below w e h n (omega arith) in
          let now : standing (e ∷ h) (suc n) ≡ moved e (standing h (suc n)) = standing-same e h (suc n) same in
          let now' : weighed w (standing (e ∷ h) (suc n)) ≡ weighed w (moved e (standing h (suc n))) = ap (weighed w) now in
          subst (λ (k : ℕ). total_to w (e ∷ h) (suc n) + weighed w (standing h k)
          ≡ total_to w h (suc n) + weighed w (moved e (standing h k))) (sym same) (omega (arith, ih, now'))
      | inr other ↦
          let ih = total_to-at w e h n low (omega arith) in
          let kept : weighed w (standing (e ∷ h) (suc n)) ≡ weighed w (standing h (suc n)) = ap (weighed w) (standing-other e h (suc n) other) in
          omega (arith, ih, kept)
    ]

-- the part of an open transaction in a sum
pub total_to-part : (w : Standing → ℕ) (h : List Event) (n t : ℕ) → 0 < t → t ≤ n → weighed w (standing h t) ≤ total_to w h n
total_to-part w h zero t low high = absurd (omega arith)
total_to-part w h (suc n) t low high =
    elim (cases_eq t (suc n)) [
      | inl same ↦ (let e : weighed w (standing h t) ≡ weighed w (standing h (suc n)) = ap (λ (k : ℕ). weighed w (standing h k)) same in omega (arith, e))
      | inr other ↦ omega (arith, total_to-part w h n t low (omega arith))
    ]

-- an open transaction's number is one of those admitted
pub open-serial : (ps : List Checked) (h : List Event) → Legal ps h → (t : ℕ) (s : Standing) → standing h t ≡ Some s → (0 < t) × (t ≤ admitted h)
open-serial ps h legal t s is = (
  elim (cases_eq t 0) [ inl same ↦ absurd (none_some _ s (standing-zero ps h legal) (ap (standing h) (sym same) ∙ is)) | inr other ↦ omega arith ],
  elim (cases_lt (admitted h) t) [ inl above ↦ absurd (none_some _ s (standing-above ps h legal t above) is) | inr below ↦ omega arith ],
)

pub total-part : (w : Standing → ℕ) (ps : List Checked) (h : List Event) → Legal ps h → (t : ℕ) (s : Standing)
    → standing h t ≡ Some s → w s ≤ total w h
unfolding total
total-part w ps h legal t s is =
    let b = open-serial ps h legal t s is in
    let part : weighed w (Some s) ≤ total_to w h (admitted h) =
    subst (λ (x : Option Standing). weighed w x ≤ total_to w h (admitted h)) is
    (total_to-part w h (admitted h) t b.0 b.1) in
    part

-- an event of an open transaction changes a sum by its part
pub total-moved : (w : Standing → ℕ) (ps : List Checked) (h : List Event) → Legal ps h → (e : Event) (s : Standing)
    → standing h (txn_of e) ≡ Some s → admitted (e ∷ h) ≡ admitted h
    → total w (e ∷ h) + w s ≡ total w h + weighed w (moved e (Some s))
unfolding total
total-moved w ps h legal e s is same =
    let b = open-serial ps h legal (txn_of e) s is in
    let at : total_to w (e ∷ h) (admitted h) + weighed w (Some s) ≡ total_to w h (admitted h) + weighed w (moved e (Some s)) =
    subst (λ (x : Option Standing). total_to w (e ∷ h) (admitted h) + weighed w x
    ≡ total_to w h (admitted h) + weighed w (moved e x)) is (total_to-at w e h (admitted h) b.0 b.1) in
    subst (λ (k : ℕ). total_to w (e ∷ h) k + w s ≡ total_to w h (admitted h) + weighed w (moved e (Some s))) (sym same) at

-- an admission adds the new transaction's part
pub total-admit : (w : Standing → ℕ) (h : List Event) (t p : ℕ) (args : List ℕ) → t ≡ admitted h + 1
    → total w (Admit t p args ∷ h) ≡ total w h + w (fresh (record { proc = p; args = args }))
unfolding total
total-admit w h t p args next =
    let below : total_to w (Admit t p args ∷ h) (admitted h) ≡ total_to w h (admitted h) =
    total_to-below w (Admit t p args) h (admitted h) (omega (arith, next)) in
    let now : standing (Admit t p args ∷ h) (suc (admitted h)) ≡ Some (fresh (record { proc = p; args = args })) =
    standing-same (Admit t p args) h (suc (admitted h)) (omega (arith, next)) in
    let now' : weighed w (standing (Admit t p args ∷ h) (suc (admitted h))) ≡ w (fresh (record { proc = p; args = args })) = ap (weighed w) now in
    let one : admitted h + 1 ≡ suc (admitted h) = omega arith in
    rw one (omega (arith, below, now'))

total_to-kept : (w : Standing → ℕ) (e : Event) (h : List Event) → ((was : Option Standing) → moved e was ≡ was) → (n : ℕ)
    → total_to w (e ∷ h) n ≡ total_to w h n
total_to-kept w e h nothing zero = refl
total_to-kept w e h nothing (suc n) =
    rw (standing-kept e h (suc n) nothing) (ap (λ k. k + weighed w (standing h (suc n))) (total_to-kept w e h nothing n))

total_to-more : (w : Standing → ℕ) (ps : List Checked) (h : List Event) → Legal ps h → (n more : ℕ) → n ≡ admitted h + more
    → total_to w h n ≡ total_to w h (admitted h)
total_to-more w ps h legal n zero is = ap (total_to w h) (omega (arith, is))
total_to-more w ps h legal zero (suc more) is = absurd (omega (arith, is))
total_to-more w ps h legal (suc n) (suc more) is =
    let none : weighed w (standing h (suc n)) ≡ 0 = ap (weighed w) (standing-above ps h legal (suc n) (omega (arith, is))) in
    omega (arith, none, total_to-more w ps h legal n more (omega (arith, is)))

-- no event takes back an admission
pub admitted_grows : (ps : List Checked) (h : List Event) (e : Event) → Allowed ps h e → admitted h ≤ admitted (e ∷ h)
admitted_grows ps h (Checkpoint before numbers) a = (let none : admitted h ≡ 0 = ap admitted a.oldest in omega (arith, none))
admitted_grows ps h _ a = omega arith

-- an event that makes nothing of its transaction changes no sum
pub total-kept : (w : Standing → ℕ) (ps : List Checked) (h : List Event) (e : Event) → Legal ps h → Allowed ps h e
    → ((was : Option Standing) → moved e was ≡ was) → total w (e ∷ h) ≡ total w h
unfolding total
total-kept w ps h e legal a nothing =
    let grows = admitted_grows ps h e a in
    total_to-kept w e h nothing (admitted (e ∷ h))
    ∙ total_to-more w ps h legal (admitted (e ∷ h)) (admitted (e ∷ h) - admitted h) (omega (arith, grows))

pub total-none : (w : Standing → ℕ) → total w [] ≡ 0
unfolding total
total-none w = refl

total_to-same : (w u : Standing → ℕ) (h : List Event) → ((t : ℕ) (s : Standing) → standing h t ≡ Some s → w s ≡ u s)
    → (n : ℕ) → total_to w h n ≡ total_to u h n
total_to-same w u h same zero = refl
total_to-same w u h same (suc n) =
    omega (arith, total_to-same w u h same n, one (standing h (suc n)) (same (suc n)))
  where
    one : (o : Option Standing) → ((s : Standing) → o ≡ Some s → w s ≡ u s) → weighed w o ≡ weighed u o
    one None k = refl
    one (Some s) k = k s refl

-- two weights that agree on the open transactions have one sum
pub total-same : (w u : Standing → ℕ) (h : List Event) → ((t : ℕ) (s : Standing) → standing h t ≡ Some s → w s ≡ u s) → total w h ≡ total u h
unfolding total
total-same w u h same = total_to-same w u h same (admitted h)
