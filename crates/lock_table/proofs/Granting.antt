-- What a transaction holds, lock by lock.
use Rattle.std.proofs.Common.{◌≡◌, ℕ, ◌==◌, Bool, true, false, if◌then◌else◌, is_some, List, ◌∷◌, refl, sym, ap, subst, ◌∙◌}
use Rattle.std.specs.Prelude.{Option, Some, None}
use Rattle.std.proofs.lemmas.Bool.{cond-true, cond-false, eq-eqb, eqb-true}
use Rattle.indexmap.specs.IndexMap.{IndexMap}
use Rattle.access_slots.specs.declared.slot.Record.{Record}
use Rattle.access_slots.specs.declared.slot.Mode.{Mode}
use Rattle.access_slots.specs.declared.lock.Lock.{Lock}
use Rattle.access_slots.specs.Locks.{record_eq, mode_in, RisingFrom}
use Rattle.access_slots.specs.Held.{Held, Wanted, excludes, Compatible}
use Rattle.access_slots.proofs.Records.{eq_same, eq_is}
use Rattle.access_slots.proofs.Locking.{none_above}
use Rattle.lock_table.specs.declared.row.Holder.{Holder}
use Rattle.lock_table.specs.declared.row.Neighbours.{Neighbours}
use Rattle.lock_table.specs.declared.maps.Holding.{Holding}
use Rattle.lock_table.specs.Facts.{granted}
use Rattle.lock_table.specs.Holds.{IsHeldAs, AreHeldAs, with_mode, IsFreeFor}
use Rattle.lock_table.proofs.HoldLemmas.{excludes_none}

choice : (b : Bool) (o x y z : Option Mode) → x ≡ o → (if b then o else if b then z else y) ≡ (if b then x else y)
choice true o x y z is = sym is
choice false o x y z is = refl

module _ (held : Held) (txn : ℕ) where
  own : (w : Wanted) (r : Record) → granted held txn w txn r ≡ w r
  own w r = cond-true _ (w r) (held txn r) (eq-eqb txn txn refl)

  module _ {S T : Type 0} (records records' : IndexMap Record Holding S) (links links' : IndexMap Holder Neighbours T) (name : Record) (w w' : Wanted) (o : Option Mode)
      (others : (h : ℕ → Option Mode) (r : Record) → record_eq name r ≡ false → IsHeldAs h records links r → IsHeldAs h records' links' r)
      (at : w' name ≡ o) (same : (r : Record) → record_eq name r ≡ false → w' r ≡ w r) where
    -- one record's modes change, and those of the others stay
    pub stepped : IsHeldAs (with_mode (λ (t : ℕ). granted held txn w t name) txn o) records' links' name
        → AreHeldAs (granted held txn w) records links → AreHeldAs (granted held txn w') records' links'
    stepped here are r = by (record_eq name r) refl
      where
        by : (b : Bool) → record_eq name r ≡ b → IsHeldAs (λ (t : ℕ). granted held txn w' t r) records' links' r
        by true e =
            let there : IsHeldAs (λ (t : ℕ). granted held txn w' t name) records' links' name =
            subst (λ (h : ℕ → Option Mode). IsHeldAs h records' links' name) (λ i. λ (t : ℕ). choice (t == txn) o (w' name) (held t name) (w name) at i) here in
            subst (λ (q : Record). IsHeldAs (λ (t : ℕ). granted held txn w' t q) records' links' q) (eq_is name r e) there
        by false e =
            subst (λ (h : ℕ → Option Mode). IsHeldAs h records' links' r) (λ i. λ (t : ℕ). if t == txn then sym (same r e) i else held t r)
            (others (λ (t : ℕ). granted held txn w t r) r e (are r))

-- ---- locks one after another

-- of these locks those that aren't left
abbrev pub got : List Lock → List Lock → Record → Option Mode
got all left r = if is_some (mode_in left r) then None else mode_in all r

-- what is left is of these locks
abbrev pub AreOf : List Lock → List Lock → Type 0
AreOf all left = (r : Record) (m : Mode) → mode_in left r ≡ Some m → mode_in all r ≡ Some m

first_mode : (l : Lock) (rest : List Lock) → mode_in (l ∷ rest) l.«record» ≡ Some l.mode
first_mode l rest = cond-true _ (Some l.mode) (mode_in rest l.«record») (eq_same l.«record»)

later_mode : (l : Lock) (rest : List Lock) (r : Record) → record_eq l.«record» r ≡ false → mode_in (l ∷ rest) r ≡ mode_in rest r
later_mode l rest r e = cond-false _ (Some l.mode) (mode_in rest r) e

not_both : (o : Option Mode) (m : Mode) → o ≡ None → o ≡ Some m → ⊥
not_both o m none some = let bad : None ≡ Some m = sym none ∙ some in absurd (cc)

module _ (all : List Lock) (l : Lock) (rest : List Lock) (rises : RisingFrom l.«record» rest) where
  pub rest_of : AreOf all (l ∷ rest) → AreOf all rest
  rest_of are r m is = by (record_eq l.«record» r) refl
    where
      by : (b : Bool) → record_eq l.«record» r ≡ b → mode_in all r ≡ Some m
      by true e = absurd (not_both (mode_in rest r) m (ap (mode_in rest) (sym (eq_is l.«record» r e)) ∙ none_above l.«record» rest rises) is)
      by false e = are r m (later_mode l rest r e ∙ is)

  -- a lock that is left isn't got yet
  pub not_got : got all (l ∷ rest) l.«record» ≡ None
  not_got = ap (λ (o : Option Mode). if is_some o then None else mode_in all l.«record») (first_mode l rest)

  -- and then it is
  pub got_now : AreOf all (l ∷ rest) → got all rest l.«record» ≡ Some l.mode
  got_now are = ap (λ (o : Option Mode). if is_some o then None else mode_in all l.«record») (none_above l.«record» rest rises) ∙ are l.«record» l.mode (first_mode l rest)

  pub got_others : (r : Record) → record_eq l.«record» r ≡ false → got all rest r ≡ got all (l ∷ rest) r
  got_others r e = ap (λ (o : Option Mode). if is_some o then None else mode_in all r) (sym (later_mode l rest r e))

  pub left_now : mode_in rest l.«record» ≡ None
  left_now = none_above l.«record» rest rises

  pub left_others : (r : Record) → record_eq l.«record» r ≡ false → mode_in rest r ≡ mode_in (l ∷ rest) r
  left_others r e = sym (later_mode l rest r e)

  module _ (held : Held) (txn : ℕ) where
    pub holds_not : granted held txn (got all (l ∷ rest)) txn l.«record» ≡ None
    holds_not = own held txn (got all (l ∷ rest)) l.«record» ∙ not_got

    pub holds_yet : is_some (granted held txn (mode_in (l ∷ rest)) txn l.«record») ≡ true
    holds_yet = ap (λ (o : Option Mode). is_some o) (own held txn (mode_in (l ∷ rest)) l.«record» ∙ first_mode l rest)

    -- nobody keeps the lock out
    pub free_yet : AreOf all (l ∷ rest) → Compatible held (mode_in all) → IsFreeFor (λ (t : ℕ). granted held txn (got all (l ∷ rest)) t l.«record») l.mode
    free_yet are compatible t = by (t == txn) refl
      where
        by : (b : Bool) → (t == txn) ≡ b → excludes (Some l.mode) (granted held txn (got all (l ∷ rest)) t l.«record») ≡ false
        by true e = ap (excludes (Some l.mode)) (cond-true _ (got all (l ∷ rest) l.«record») (held t l.«record») e ∙ not_got) ∙ excludes_none l.mode
        by false e =
            ap (excludes (Some l.mode)) (cond-false _ (got all (l ∷ rest) l.«record») (held t l.«record») e)
            ∙ ap (λ (o : Option Mode). excludes o (held t l.«record»)) (sym (are l.«record» l.mode (first_mode l rest)))
            ∙ compatible l.«record» t

-- none is got in the beginning
none_got_by : (o : Option Mode) → (if is_some o then None else o) ≡ None
none_got_by None = refl
none_got_by (Some m) = refl

pub held_yet : {S T : Type 0} (records : IndexMap Record Holding S) (links : IndexMap Holder Neighbours T) (held : Held) (txn : ℕ) (w : Wanted)
    → ((r : Record) → held txn r ≡ w r) → AreHeldAs held records links → AreHeldAs (granted held txn w) records links
held_yet records links held txn w is are r =
    subst (λ (h : ℕ → Option Mode). IsHeldAs h records links r) (λ i. λ (t : ℕ). point t i) (are r)
  where
    point : (t : ℕ) → held t r ≡ granted held txn w t r
    point t = by (t == txn) refl
      where
        by : (b : Bool) → (t == txn) ≡ b → held t r ≡ granted held txn w t r
        by true e = ap (λ (u : ℕ). held u r) (eqb-true t txn e) ∙ is r ∙ sym (cond-true _ (w r) (held t r) e)
        by false e = sym (cond-false _ (w r) (held t r) e)

pub none_got : (all : List Lock) (r : Record) → got all all r ≡ None
none_got all r = none_got_by (mode_in all r)
