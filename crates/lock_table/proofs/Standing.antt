-- Where holders stand, as neighbours are noted.
use Rattle.std.proofs.Common.{◌≡◌, ℕ, Bool, true, false, ◌&&◌, ◌==◌, if◌then◌else◌, refl, sym, ap, ap₂, ◌∙◌, true≢false}
use Rattle.std.specs.Prelude.{Option, Some, None}
use Rattle.std.proofs.lemmas.Bool.{eqb-true}
use Rattle.access_slots.specs.declared.slot.Record.{Record}
use Rattle.access_slots.specs.Locks.{record_eq}
use Rattle.access_slots.proofs.Records.{eq_same, eq_is}
use Rattle.lock_table.specs.declared.row.Neighbours.{Neighbours}
use Rattle.lock_table.specs.Rows.{holder, holder_eq, before_in, behind_in, is_at}
use Rattle.lock_table.proofs.RowLemmas.{at_number}

-- ---- one entry changes

pub before_put : (b : Bool) (n : Neighbours) (o : Option Neighbours) → before_in (if b then Some n else o) ≡ (if b then n.before else before_in o)
before_put true n o = refl
before_put false n o = refl

pub behind_put : (b : Bool) (n : Neighbours) (o : Option Neighbours) → behind_in (if b then Some n else o) ≡ (if b then n.behind else behind_in o)
behind_put true n o = refl
behind_put false n o = refl

pub before_gone : (b : Bool) (o : Option Neighbours) → before_in (if b then None else o) ≡ (if b then None else before_in o)
before_gone true o = refl
before_gone false o = refl

pub behind_gone : (b : Bool) (o : Option Neighbours) → behind_in (if b then None else o) ≡ (if b then None else behind_in o)
behind_gone true o = refl
behind_gone false o = refl

-- where none is to stand
pub alone_is : (b : Bool) (x y z : Option ℕ) → x ≡ None → z ≡ (if b then None else y) → z ≡ (if b then x else y)
alone_is b x y z none is = is ∙ ap (λ (n : Option ℕ). if b then n else y) (sym none)

-- ---- the same holder

both : (a b : Bool) → (a && b) ≡ true → (a ≡ true) × (b ≡ true)
both true true e = (refl, refl)
both true false e = absurd (true≢false (sym e))
both false b e = absurd (true≢false (sym e))

-- what is put back where it was
pub put_back : (f : Record → ℕ → Option ℕ) (n r : Record) (t u : ℕ) (x : Option ℕ) → x ≡ f n t → (if holder_eq (holder n t) (holder r u) then x else f r u) ≡ f r u
put_back f n r t u x is = by (holder_eq (holder n t) (holder r u)) refl
  where
    by : (b : Bool) → holder_eq (holder n t) (holder r u) ≡ b → (if b then x else f r u) ≡ f r u
    by true e = (let parts = both (record_eq n r) (t == u) e in is ∙ ap₂ (λ (q : Record) (v : ℕ). f q v) (eq_is n r parts.0) (eqb-true t u parts.1))
    by false e = refl

pub same_record : (r : Record) (t u : ℕ) → holder_eq (holder r t) (holder r u) ≡ (t == u)
same_record r t u = ap (λ (b : Bool). b && (t == u)) (eq_same r)

pub other_record : (n r : Record) (t u : ℕ) → record_eq n r ≡ false → holder_eq (holder n t) (holder r u) ≡ false
other_record n r t u e = ap (λ (b : Bool). b && (t == u)) e

pub at_same : (o : Option ℕ) (r : Record) (u : ℕ) → is_at o r r u ≡ at_number o u
at_same None r u = refl
at_same (Some b) r u = same_record r b u

pub at_other : (o : Option ℕ) (n r : Record) (u : ℕ) → record_eq n r ≡ false → is_at o n r u ≡ false
at_other None n r u e = refl
at_other (Some b) n r u e = other_record n r b u e

-- ---- two changes and one that keeps

module _ (b b' c c' : Bool) (x y z1 z2 z3 z4 : Option ℕ) (own : b ≡ b') (next : c ≡ c') (last : z4 ≡ (if b then x else z3)) where
  pub changed_late : z3 ≡ (if c then y else z2) → z2 ≡ z1 → z4 ≡ (if b' then x else if c' then y else z1)
  changed_late e3 e2 = last ∙ (λ i. if own i then x else (e3 ∙ (λ j. if next j then y else e2 j)) i)

  pub changed_early : z3 ≡ z2 → z2 ≡ (if c then y else z1) → z4 ≡ (if b' then x else if c' then y else z1)
  changed_early e3 e2 = last ∙ (λ i. if own i then x else (e3 ∙ (e2 ∙ (λ j. if next j then y else z1))) i)

-- who has a neighbour has an entry
pub there_behind : (o : Option Neighbours) (t : ℕ) → o ≡ None → behind_in o ≡ Some t → ⊥
there_behind o t none is = let bad : None ≡ Some t = sym (ap behind_in none) ∙ is in absurd (cc)

pub there_before : (o : Option Neighbours) (t : ℕ) → o ≡ None → before_in o ≡ Some t → ⊥
there_before o t none is = let bad : None ≡ Some t = sym (ap before_in none) ∙ is in absurd (cc)
