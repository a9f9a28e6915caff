-- Who is open holds the locks of the call that stands at the place of its admission.
use Rattle.std.proofs.Common.{◌≡◌, ◌≢◌, ℕ, true, false, ◌≤◌, List, [], ◌∷◌, ◌++◌, Option, Some, None, length, arith, refl, sym, ap, subst, ◌∙◌, inl, inr}
use Rattle.std.specs.Prelude.{reverse, IsSome}
use Rattle.std.specs.List.{slice_get}
use Rattle.std.proofs.lemmas.Bool.{cases_eq}
use Rattle.access_slots.specs.declared.lock.Lock.{Lock}
use Rattle.access_slots.specs.declared.slot.Record.{Record}
use Rattle.access_slots.specs.Declaration.{Declaration}
use Rattle.access_slots.specs.Locks.{mode_in, AreLocksOf, Rising}
use Rattle.verifier.specs.Checked.{Checked}
use Rattle.tc_log.specs.declared.event.Event.{Event}
use Rattle.tc_log.specs.declared.event.Event.TheVariants.{Admit, Ask, Answer, Undo, End}
use Rattle.history.specs.Calls.{Call, admitted, held, locks_by, locks_of, txn_of}
use Rattle.history.proofs.Placing.{placed}
use Rattle.tc_core.specs.Core.{Core}
use Rattle.embedding.specs.Serving.{AreItsLocks, IsOpenAt}
use Rattle.transactions.specs.Standing.{Standing, standing, moved}
use Rattle.transactions.specs.Legal.{Legal, Allowed, CanAdmit}
use Rattle.transactions.specs.Reached.{decls}
use Rattle.transactions.proofs.Headline.{held_is}
use Rattle.transactions.proofs.Running.{get_decl}
use Rattle.transactions.proofs.StandingLemmas.{some_same, none_some, standing-same, standing-other, admitted_grows}

-- each event was allowed where it stands
allowed_at : (ps : List Checked) (later earlier : List Event) (e : Event) → Legal ps (later ++ e ∷ earlier) → Allowed ps earlier e
allowed_at ps [] earlier e legal = legal.0
allowed_at ps (x ∷ later) earlier e legal = allowed_at ps later earlier e legal.1

admitted_so : (ps : List Checked) (h : List Event) → Legal ps h → (place t p : ℕ) (args : List ℕ)
    → slice_get (reverse h) place ≡ Some (Admit t p args) → (earlier : List Event) × CanAdmit ps earlier t (record { proc = p; args = args })
admitted_so ps h legal place t p args at =
    let it = placed h place (Admit t p args) at in
    (it.earlier, allowed_at ps it.later it.earlier (Admit t p args) (subst (Legal ps) it.is legal))

-- it was numbered as one of those that were admitted
numbered : (ps : List Checked) (later earlier : List Event) (t p : ℕ) (args : List ℕ)
    → Legal ps (later ++ Admit t p args ∷ earlier) → t ≤ admitted (later ++ Admit t p args ∷ earlier)
numbered ps [] earlier t p args legal = let next = legal.0.next in omega (arith, next)
numbered ps (e ∷ later) earlier t p args legal =
    let before = numbered ps later earlier t p args legal.1 in
    let more = admitted_grows ps (later ++ Admit t p args ∷ earlier) e legal.0 in
    omega (arith, before, more)

-- what an event other than an admission leaves of a transaction's call
same_call : (e : Event) (was : Option Standing) (s : Standing) → ((u q : ℕ) (xs : List ℕ) → e ≢ Admit u q xs) → moved e was ≡ Some s
    → (v : Standing) × (was ≡ Some v) × (v.call ≡ s.call)
same_call (Admit u q xs) was s apart is = absurd (apart u q xs refl)
same_call (Ask u n o) None s apart is = absurd (let bad : None ≡ Some s = is in cc)
same_call (Ask u n o) (Some v) s apart is = (v, refl, ap (λ (x : Standing). x.call) (some_same _ s is))
same_call (Answer u n said) None s apart is = absurd (let bad : None ≡ Some s = is in cc)
same_call (Answer u n said) (Some v) s apart is = (v, refl, ap (λ (x : Standing). x.call) (some_same _ s is))
same_call (Undo u n o) None s apart is = absurd (let bad : None ≡ Some s = is in cc)
same_call (Undo u n o) (Some v) s apart is = (v, refl, ap (λ (x : Standing). x.call) (some_same _ s is))
same_call (End u o) was s apart is = absurd (let bad : None ≡ Some s = is in cc)
same_call _ was s apart is = (s, is, refl)

-- an admission behind it is of another transaction
is_other : (ps : List Checked) (e : Event) (later earlier : List Event) (t p : ℕ) (args : List ℕ)
    → Legal ps (e ∷ later ++ Admit t p args ∷ earlier) → txn_of e ≡ t → (u q : ℕ) (xs : List ℕ) → e ≢ Admit u q xs
is_other ps e later earlier t p args legal same u q xs is =
    let there : CanAdmit ps (later ++ Admit t p args ∷ earlier) u (record { proc = q; args = xs })
    = subst (Allowed ps (later ++ Admit t p args ∷ earlier)) is legal.0 in
    let next = there.next in let before = numbered ps later earlier t p args legal.1 in
    let own : u ≡ t = ap txn_of (sym is) ∙ same in
    omega (arith, next, before, own)

call_of_open : (ps : List Checked) (later earlier : List Event) (t p : ℕ) (args : List ℕ) (s : Standing)
    → Legal ps (later ++ Admit t p args ∷ earlier) → standing (later ++ Admit t p args ∷ earlier) t ≡ Some s → s.call ≡ record { proc = p; args = args }
call_of_open ps [] earlier t p args s legal is =
    sym (ap (λ (x : Standing). x.call) (some_same _ s (sym (standing-same (Admit t p args) earlier t refl) ∙ is)))
call_of_open ps (e ∷ later) earlier t p args s legal is =
    let rest = later ++ Admit t p args ∷ earlier in
    elim (cases_eq (txn_of e) t) [
      | inl same ↦
          let was = same_call e (standing rest t) s (is_other ps e later earlier t p args legal same) (sym (standing-same e rest t same) ∙ is) in
          sym was.2 ∙ call_of_open ps later earlier t p args was.0 legal.1 was.1
      | inr other ↦ call_of_open ps later earlier t p args s legal.1 (sym (standing-other e rest t other) ∙ is)
    ]

-- who is open holds just these locks
holds_these : (ps : List Checked) (h : List Event) → Legal ps h → (place t p : ℕ) (args : List ℕ)
    → slice_get (reverse h) place ≡ Some (Admit t p args) → (s : Standing) → standing h t ≡ Some s
    → (q : Checked) → slice_get ps p ≡ Some q → (locks : List Lock) → AreLocksOf args q.decl.slots locks
    → (r : Record) → mode_in locks r ≡ held (decls ps) h t r
holds_these ps h legal place t p args at s is q loaded locks these r =
    let it = placed h place (Admit t p args) at in
    let call = call_of_open ps it.later it.earlier t p args s (subst (Legal ps) it.is legal) (ap (λ (x : List Event). standing x t) (sym it.is) ∙ is) in
    let declared = ap (λ (d : Option Declaration). locks_by d args r) (get_decl ps p q loaded) in
    these r ∙ sym declared ∙ sym (ap (λ (c : Call). locks_of (decls ps) c r) call) ∙ sym (held_is ps h t s r is)

-- ---- as the code has it

pub has_its_procedure : (ps : List Checked) (h : List Event) → Legal ps h → (place t p : ℕ) (args : List ℕ)
    → slice_get (reverse h) place ≡ Some (Admit t p args) → slice_get ps p ≡ None → ⊥
has_its_procedure ps h legal place t p args at none =
    let it = admitted_so ps h legal place t p args at in none_some (slice_get ps p) it.1.q none it.1.loaded

pub takes_these : (ps : List Checked) (h : List Event) → Legal ps h → (place t p : ℕ) (args : List ℕ)
    → slice_get (reverse h) place ≡ Some (Admit t p args) → (q : Checked) → slice_get ps p ≡ Some q → length args ≡ q.decl.args
takes_these ps h legal place t p args at q loaded =
    let it = admitted_so ps h legal place t p args at in
    it.1.takes.count ∙ ap (λ (x : Checked). x.decl.args) (some_same it.1.q q (sym it.1.loaded ∙ loaded))

its_locks : (c : Core) (place t p : ℕ) (args : List ℕ) (q : Checked) (locks : List Lock) → Legal c.procs c.events
    → slice_get (reverse c.events) place ≡ Some (Admit t p args) → (o : Option Standing) → standing c.events t ≡ o → IsSome o
    → slice_get c.procs p ≡ Some q → AreLocksOf args q.decl.slots locks → Rising locks → AreItsLocks c t locks
its_locks c place t p args q locks legal at None is some loaded these rising = absurd (let bad : false ≡ true = some in cc)
its_locks c place t p args q locks legal at (Some s) is some loaded these rising = record {
  rising = rising;
  all = holds_these c.procs c.events legal place t p args at s is q loaded locks these;
}

pub are_its_locks : (c : Core) (place t p : ℕ) (args : List ℕ) (serial : ℕ) (said : List ℕ) (d : Declaration) (q : Checked) (locks : List Lock)
    → Legal c.procs c.events → slice_get (reverse c.events) place ≡ Some (Admit t p args) → serial ≡ t → IsSome (standing c.events t)
    → slice_get c.procs p ≡ Some q → said ≡ args → d ≡ q.decl → AreLocksOf said d.slots locks → Rising locks → AreItsLocks c serial locks
are_its_locks c place t p args serial said d q locks legal at is_t stands loaded is_args is_decl these rising =
    subst (λ (n : ℕ). AreItsLocks c n locks) (sym is_t)
    (its_locks c place t p args q locks legal at (standing c.events t) refl stands loaded
    (subst (λ (e : Declaration). AreLocksOf args e.slots locks) is_decl (subst (λ (xs : List ℕ). AreLocksOf xs d.slots locks) is_args these)) rising)

-- the transaction that an event admits, where it is open
pub open_at : (c : Core) (place serial t p : ℕ) (args : List ℕ) → slice_get (reverse c.events) place ≡ Some (Admit t p args) → serial ≡ t
    → IsSome (standing c.events t) → IsOpenAt c place serial p
open_at c place serial t p args at same stands = record {
  args = args;
  at = at ∙ ap (λ (n : ℕ). Some (Admit n p args)) (sym same);
  stands = subst (λ (n : ℕ). IsSome (standing c.events n)) (sym same) stands;
}
