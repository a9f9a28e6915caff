-- What the table keeps, as sets come and go.
use Rattle.std.proofs.Common.{arith, ◌≡◌, ℕ, nat_eq, ◌==◌, Bool, true, false, is_some, List, [], ◌∷◌, refl, sym, ap, subst, ◌∙◌, true≢false}
use Rattle.std.specs.Prelude.{Option, Some, None, IfNone, IfSome}
use Rattle.std.proofs.lemmas.Bool.{cond-true, cond-false, eq-eqb, eqb-true}
use Rattle.std.proofs.lemmas.Bool.Decides.{nat_tests}
use Rattle.indexmap.specs.IndexMap.{IndexMap, IsUnique, Updates, get}
use Rattle.access_slots.specs.declared.slot.Record.{Record}
use Rattle.access_slots.specs.declared.slot.Mode.{Mode}
use Rattle.access_slots.specs.declared.lock.Lock.{Lock}
use Rattle.access_slots.specs.Locks.{mode_in}
use Rattle.access_slots.specs.Held.{Held}
use Rattle.lock_table.specs.declared.row.Holder.{Holder}
use Rattle.lock_table.specs.declared.row.Neighbours.{Neighbours}
use Rattle.lock_table.specs.declared.table.Busy.{Busy}
use Rattle.lock_table.specs.declared.maps.Holding.{Holding}
use Rattle.lock_table.specs.Clashes.{clashes}
use Rattle.lock_table.specs.Facts.{held_in, mode_among, granted, released}
use Rattle.lock_table.specs.Holds.{IsHeld, IsHeldAs, AreHeldAs, IsKept}

-- nothing in the way is what a table that names nothing says
pub not_busy : (o : Option Busy) (free : Type 0) → o ≡ None → IfNone o free → free
not_busy o free none says = subst (λ (x : Option Busy). IfNone x free) none says

-- no set is ready
pub not_ready : (o : Option (List Lock)) (P : List Lock → Type 0) → o ≡ None → IfSome o P
not_ready o P none = subst (λ (x : Option (List Lock)). IfSome x P) (sym none) tt

-- the same holders
pub are_held : {S T : Type 0} (records : IndexMap Record Holding S) (links : IndexMap Holder Neighbours T) (held held' : Held)
    → ((t : ℕ) (r : Record) → held t r ≡ held' t r) → AreHeldAs held records links → AreHeldAs held' records links
are_held records links held held' same are r = subst (λ (h : ℕ → Option Mode). IsHeldAs h records links r) (λ i. λ (t : ℕ). same t r i) (are r)

module _ {S T U : Type 0} (sets sets' : IndexMap ℕ (List Lock) S) (records' : IndexMap Record Holding T) (links' : IndexMap Holder Neighbours U) (t : ℕ)
    (set : List Lock) where
  one_more : (b : Bool) (u : ℕ) (r : Record) → (u == t) ≡ b → Updates nat_eq sets sets' t (Some set)
      → granted (held_in sets.entries) t (mode_in set) u r ≡ held_in sets'.entries u r
  one_more true u r is up =
      cond-true _ (mode_in set r) (held_in sets.entries u r) is
      ∙ sym (ap (λ (o : Option (List Lock)). mode_among o r) (up.0 u ∙ cond-true _ (Some set) (get nat_eq sets u) (eq-eqb t u (sym (eqb-true u t is)))))
  one_more false u r is up =
      let other : nat_eq t u ≡ false = grind (arith, nat_tests) in
      cond-false _ (mode_in set r) (held_in sets.entries u r) is
      ∙ sym (ap (λ (o : Option (List Lock)). mode_among o r) (up.0 u ∙ cond-false _ (Some set) (get nat_eq sets u) other))

  one_less : (b : Bool) (u : ℕ) (r : Record) → (u == t) ≡ b → Updates nat_eq sets sets' t None
      → released (held_in sets.entries) t u r ≡ held_in sets'.entries u r
  one_less true u r is up =
      cond-true _ None (held_in sets.entries u r) is
      ∙ sym (ap (λ (o : Option (List Lock)). mode_among o r) (up.0 u ∙ cond-true _ None (get nat_eq sets u) (eq-eqb t u (sym (eqb-true u t is)))))
  one_less false u r is up =
      let other : nat_eq t u ≡ false = grind (arith, nat_tests) in
      cond-false _ None (held_in sets.entries u r) is
      ∙ sym (ap (λ (o : Option (List Lock)). mode_among o r) (up.0 u ∙ cond-false _ None (get nat_eq sets u) other))

  -- a transaction that had nothing has a set
  pub put_kept : Updates nat_eq sets sets' t (Some set) → IsUnique nat_eq sets' → AreHeldAs (granted (held_in sets.entries) t (mode_in set)) records' links'
      → IsKept sets' records' links'
  put_kept up unique are = record {
    unique = unique;
    holds = are_held records' links' (granted (held_in sets.entries) t (mode_in set)) (held_in sets'.entries) (λ u r. one_more (u == t) u r refl up) are;
  }

  -- its set is taken away
  pub taken_kept : Updates nat_eq sets sets' t None → IsUnique nat_eq sets' → AreHeldAs (released (held_in sets.entries) t) records' links' → IsKept sets' records' links'
  taken_kept up unique are = record {
    unique = unique;
    holds = are_held records' links' (released (held_in sets.entries) t) (held_in sets'.entries) (λ u r. one_less (u == t) u r refl up) are;
  }

-- ---- whether a record is held

pub nobody_holds : (h : ℕ → Option Mode) (o : Option Holding) (before behind : ℕ → Option ℕ) → IsHeld h o before behind → is_some o ≡ false → (t : ℕ) → h t ≡ None
nobody_holds h None before behind is e t = (is t).0
nobody_holds h (Some g) before behind is e t = absurd (true≢false e)

pub somebody_holds : (h : ℕ → Option Mode) (o : Option Holding) (before behind : ℕ → Option ℕ) → IsHeld h o before behind → is_some o ≡ true
    → (t : ℕ) × (m : Mode) × (h t ≡ Some m)
somebody_holds h None before behind is e = absurd (true≢false (sym e))
somebody_holds h (Some g) before behind is e = (g.ends.first, g.mode, is.modes g.ends.first is.row.first_in)

-- where nothing is held nothing clashes
pub clashes_nothing : (wanted : List Lock) → clashes wanted (mode_among None) ≡ false
clashes_nothing [] = refl
clashes_nothing (l ∷ wanted) = clashes_nothing wanted
