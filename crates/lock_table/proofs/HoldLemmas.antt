-- How a record is held, as one holder comes or goes.
use Rattle.std.proofs.Common.{arith, ◌≡◌, ◌≢◌, ℕ, ◌<◌, Bool, true, false, ◌||◌, ◌&&◌, not, is_some, List}
use Rattle.std.proofs.Common.{refl, sym, ap, subst, ◌∙◌, inl, inr, true≢false}
use Rattle.std.specs.Prelude.{Option, Some, None, unwrap_or}
use Rattle.std.specs.Map.{lookup}
use Rattle.std.proofs.lemmas.Bool.{cases_eq, cond-true, cond-false, eq-eqb}
use Rattle.access_slots.specs.declared.slot.Record.{Record}
use Rattle.access_slots.specs.declared.slot.Mode.{Mode}
use Rattle.access_slots.specs.declared.slot.Mode.TheVariants as mode
use Rattle.access_slots.specs.Locks.{record_eq}
use Rattle.access_slots.specs.Held.{excludes}
use Rattle.lock_table.specs.declared.maps.Holding.{Holding}
use Rattle.lock_table.specs.Rows.{IsRow, IsPrevious, IsNext, with_txn, without_txn}
use Rattle.lock_table.specs.Holds.{IsHolding, IsFree, IsHeld, with_mode, IsFreeFor, IsLeastInTheWay}
use Rattle.lock_table.proofs.RowLemmas.{apart, never}

abbrev pub holding : Mode → ℕ → ℕ → Holding
holding m first last = record { mode = m; ends = record { first = first; last = last } }

pub some_none : {A : Type 0} (o : Option A) → is_some o ≡ false → o ≡ None
some_none None e = refl
some_none (Some x) e = absurd (true≢false e)

module _ (h : ℕ → Option Mode) (t : ℕ) where
  mode_here : (m : Option Mode) → with_mode h t m t ≡ m
  mode_here m = cond-true _ m (h t) (eq-eqb t t refl)

  mode_there : (m : Option Mode) (u : ℕ) → t ≢ u → with_mode h t m u ≡ h u
  mode_there m u ne = cond-false _ m (h u) (apart u t (λ same. ne (sym same)))

  with_row : (m : Mode) (u : ℕ) → with_txn (λ (v : ℕ). is_some (h v)) t u ≡ is_some (with_mode h t (Some m) u)
  with_row m u = elim (cases_eq t u) [
    | inl same ↦ ap (λ (b : Bool). b || is_some (h u)) (eq-eqb t u same) ∙ sym (ap (λ (o : Option Mode). is_some o) (cond-true _ (Some m) (h u) (eq-eqb u t (sym same))))
    | inr ne ↦ ap (λ (b : Bool). b || is_some (h u)) (apart t u ne) ∙ sym (ap (λ (o : Option Mode). is_some o) (mode_there (Some m) u ne))
  ]

  without_row : (u : ℕ) → without_txn (λ (v : ℕ). is_some (h v)) t u ≡ is_some (with_mode h t None u)
  without_row u = elim (cases_eq t u) [
    | inl same ↦ ap (λ (b : Bool). not b && is_some (h u)) (eq-eqb t u same) ∙ sym (ap (λ (o : Option Mode). is_some o) (cond-true _ None (h u) (eq-eqb u t (sym same))))
    | inr ne ↦ ap (λ (b : Bool). not b && is_some (h u)) (apart t u ne) ∙ sym (ap (λ (o : Option Mode). is_some o) (mode_there None u ne))
  ]

  -- ---- one that is free

  one_alone : (m : Mode) (u : ℕ) → ((v : ℕ) → h v ≡ None) → is_some (with_mode h t (Some m) u) ≡ true → t ≡ u
  one_alone m u free here = elim (cases_eq t u) [
    | inl same ↦ same
    | inr ne ↦ never _ here (ap (λ (o : Option Mode). is_some o) (mode_there (Some m) u ne ∙ free u))
  ]

  pub held_first : (m : Mode) (before behind : ℕ → Option ℕ) → IsFree h before behind → IsHolding (with_mode h t (Some m)) (holding m t t) before behind
  held_first m before behind free = record {
    modes = λ u here. subst (λ (v : ℕ). with_mode h t (Some m) v ≡ Some m) (one_alone m u none here) (mode_here (Some m));
    alone = λ writes. refl;
    row = record {
      first_in = own;
      last_in = own;
      least = λ u here. omega (arith, one_alone m u none here);
      greatest = λ u here. omega (arith, one_alone m u none here);
      previous = λ u here. subst (IsPrevious taken u) (sym ((free u).1)) (λ v below. others v (omega (arith, below, one_alone m u none here)));
      next = λ u here. subst (IsNext taken u) (sym ((free u).2)) (λ v above. others v (omega (arith, above, one_alone m u none here)));
      none = λ u out. ((free u).1, (free u).2);
    };
  }
    where
      taken : ℕ → Bool
      taken = λ v. is_some (with_mode h t (Some m) v)

      none : (v : ℕ) → h v ≡ None
      none v = (free v).0

      own : is_some (with_mode h t (Some m) t) ≡ true
      own = ap (λ (o : Option Mode). is_some o) (mode_here (Some m))

      others : (v : ℕ) → t ≢ v → is_some (with_mode h t (Some m) v) ≡ false
      others v ne = ap (λ (o : Option Mode). is_some o) (mode_there (Some m) v ne ∙ none v)

  -- ---- one that others hold

  both_read : (m g : Mode) → excludes (Some m) (Some g) ≡ false → (m ≡ mode.Read) × (g ≡ mode.Read)
  both_read mode.Read mode.Read e = (refl, refl)
  both_read mode.Read mode.Write e = absurd (true≢false e)
  both_read mode.Write g e = absurd (true≢false e)

  pub held_more : (m : Mode) (g : Holding) (first last : ℕ) (before behind before' behind' : ℕ → Option ℕ) → IsHolding h g before behind
      → IsFreeFor h m → IsRow (with_txn (λ (v : ℕ). is_some (h v)) t) first last before' behind'
      → IsHolding (with_mode h t (Some m)) (holding g.mode first last) before' behind'
  held_more m g first last before behind before' behind' is free row = record {
    modes = λ u here. elim (cases_eq t u) [
      | inl same ↦ subst (λ (v : ℕ). with_mode h t (Some m) v ≡ Some g.mode) same (mode_here (Some m) ∙ ap (λ (x : Mode). Some x) (read.0 ∙ sym read.1))
      | inr ne ↦ mode_there (Some m) u ne ∙ is.modes u (sym (ap (λ (o : Option Mode). is_some o) (mode_there (Some m) u ne)) ∙ here)
    ];
    alone = λ writes. absurd (let bad : mode.Read ≡ mode.Write = sym read.1 ∙ writes in cc);
    row = subst (λ (p : ℕ → Bool). IsRow p first last before' behind') (λ i. λ (v : ℕ). with_row m v i) row;
  }
    where
      read : (m ≡ mode.Read) × (g.mode ≡ mode.Read)
      read = both_read m g.mode (sym (ap (excludes (Some m)) (is.modes g.ends.first is.row.first_in)) ∙ free g.ends.first)

  -- ---- one goes

  pub held_last : (g : Holding) (before behind : ℕ → Option ℕ) → IsHolding h g before behind → is_some (h t) ≡ true → g.ends.first ≡ g.ends.last
      → IsFree (with_mode h t None) before behind
  held_last g before behind is there sole = λ u. (
    elim (cases_eq t u) [
      | inl same ↦ subst (λ (v : ℕ). with_mode h t None v ≡ None) same (mode_here None)
      | inr ne ↦ mode_there None u ne ∙ nobody u ne
    ],
    elim (cases_eq t u) [
      | inl same ↦ subst (λ (v : ℕ). before v ≡ None) same (by_previous (before t) (is.row.previous t there))
      | inr ne ↦ (is.row.none u (out u ne)).0
    ],
    elim (cases_eq t u) [
      | inl same ↦ subst (λ (v : ℕ). behind v ≡ None) same (by_next (behind t) (is.row.next t there))
      | inr ne ↦ (is.row.none u (out u ne)).1
    ],
  )
    where
      out : (u : ℕ) → t ≢ u → is_some (h u) ≡ false
      out u ne = by (is_some (h u)) refl
        where
          by : (b : Bool) → is_some (h u) ≡ b → b ≡ false
          by false e = refl
          by true e = absurd (omega (arith, ne, sole, is.row.least t there, is.row.greatest t there, is.row.least u e, is.row.greatest u e))

      nobody : (u : ℕ) → t ≢ u → h u ≡ None
      nobody u ne = some_none (h u) (out u ne)

      by_previous : (o : Option ℕ) → IsPrevious (λ v. is_some (h v)) t o → o ≡ None
      by_previous None s = refl
      by_previous (Some n) s = never _ s.1 (out n (omega (arith, s.0)))

      by_next : (o : Option ℕ) → IsNext (λ v. is_some (h v)) t o → o ≡ None
      by_next None s = refl
      by_next (Some n) s = never _ s.1 (out n (omega (arith, s.0)))

  pub held_less : (g : Holding) (first last : ℕ) (before behind before' behind' : ℕ → Option ℕ) → IsHolding h g before behind
      → g.ends.first ≢ g.ends.last → IsRow (without_txn (λ (v : ℕ). is_some (h v)) t) first last before' behind'
      → IsHolding (with_mode h t None) (holding g.mode first last) before' behind'
  held_less g first last before behind before' behind' is several row = record {
    modes = λ u here. elim (cases_eq t u) [
      | inl same ↦ never _ here (subst (λ (v : ℕ). is_some (with_mode h t None v) ≡ false) same (ap (λ (o : Option Mode). is_some o) (mode_here None)))
      | inr ne ↦ mode_there None u ne ∙ is.modes u (sym (ap (λ (o : Option Mode). is_some o) (mode_there None u ne)) ∙ here)
    ];
    alone = λ writes. absurd (several (is.alone writes));
    row = subst (λ (p : ℕ → Bool). IsRow p first last before' behind') (λ i. λ (v : ℕ). without_row v i) row;
  }

-- ---- as it is kept

-- the last one goes
pub taken_last : (h : ℕ → Option Mode) (t : ℕ) (o o' : Option Holding) (g : Holding) (before behind : ℕ → Option ℕ) → IsHeld h o before behind → o ≡ Some g → o' ≡ None
    → is_some (h t) ≡ true → g.ends.first ≡ g.ends.last → IsHeld (with_mode h t None) o' before behind
taken_last h t o o' g before behind is was now there sole =
    subst (λ (x : Option Holding). IsHeld (with_mode h t None) x before behind) (sym now)
    (held_last h t g before behind (subst (λ (x : Option Holding). IsHeld h x before behind) was is) there sole)

-- one of several goes
pub taken_one : (h : ℕ → Option Mode) (t : ℕ) (o o' : Option Holding) (g : Holding) (first last : ℕ) (before behind before' behind' : ℕ → Option ℕ)
    → IsHeld h o before behind → o ≡ Some g → o' ≡ Some (holding g.mode first last) → g.ends.first ≢ g.ends.last
    → (IsRow (λ (v : ℕ). is_some (h v)) g.ends.first g.ends.last before behind → IsRow (without_txn (λ (v : ℕ). is_some (h v)) t) first last before' behind')
    → IsHeld (with_mode h t None) o' before' behind'
taken_one h t o o' g first last before behind before' behind' is was now several left =
    let old : IsHolding h g before behind = subst (λ (x : Option Holding). IsHeld h x before behind) was is in
    subst (λ (x : Option Holding). IsHeld (with_mode h t None) x before' behind') (sym now)
    (held_less h t g first last before behind before' behind' old several (left old.row))

-- its row, where it is held
pub row_of : (h : ℕ → Option Mode) (o : Option Holding) (g : Holding) (before behind : ℕ → Option ℕ) → IsHeld h o before behind → o ≡ Some g
    → IsRow (λ (v : ℕ). is_some (h v)) g.ends.first g.ends.last before behind
row_of h o g before behind is was = (subst (λ (x : Option Holding). IsHeld h x before behind) was is).row

-- nobody holds what isn't there
pub none_there : (h : ℕ → Option Mode) (t : ℕ) (o : Option Holding) (before behind : ℕ → Option ℕ) → IsHeld h o before behind → o ≡ None → is_some (h t) ≡ true → ⊥
none_there h t o before behind is none there =
    absurd (true≢false (sym there ∙ ap (λ (x : Option Mode). is_some x) ((subst (λ (x : Option Holding). IsHeld h x before behind) none is) t).0))

module _ (h : ℕ → Option Mode) (t : ℕ) (m : Mode) (before behind : ℕ → Option ℕ) where
  -- the row that a holder comes into, where there is one
  pub row_if : (o : Option Holding) (was : Holding) → IsHeld h o before behind → was ≡ unwrap_or o (holding m t t) → was.ends.first ≢ t
      → IsRow (λ (v : ℕ). is_some (h v)) was.ends.first was.ends.last before behind
  row_if None was is same other = absurd (other (ap (λ (g : Holding). g.ends.first) same))
  row_if (Some g) was is same other = subst (λ (x : Holding). IsRow (λ (v : ℕ). is_some (h v)) x.ends.first x.ends.last before behind) (sym same) is.row

  pub added : (o : Option Holding) (was new : Holding) (before' behind' : ℕ → Option ℕ) → IsHeld h o before behind → h t ≡ None → IsFreeFor h m
      → was ≡ unwrap_or o (holding m t t) → new.mode ≡ was.mode
      → (was.ends.first ≡ t → (new.ends ≡ was.ends) × (before' ≡ before) × (behind' ≡ behind))
      → (was.ends.first ≢ t → IsRow (with_txn (λ (v : ℕ). is_some (h v)) t) new.ends.first new.ends.last before' behind')
      → IsHolding (with_mode h t (Some m)) new before' behind'
  added None was new before' behind' is out free same mode_same alone row =
      let kept = alone (ap (λ (g : Holding). g.ends.first) same) in
      let it : holding m t t ≡ new = (λ i. record { mode = sym (mode_same ∙ ap (λ (g : Holding). g.mode) same) i; ends = sym (kept.0 ∙ ap (λ (g : Holding). g.ends) same) i }) in
      subst (λ (x : Holding). IsHolding (with_mode h t (Some m)) x before' behind') it
      (subst (λ (f : ℕ → Option ℕ). IsHolding (with_mode h t (Some m)) (holding m t t) f behind') (sym kept.1)
      (subst (λ (f : ℕ → Option ℕ). IsHolding (with_mode h t (Some m)) (holding m t t) before f) (sym kept.2) (held_first h t m before behind is)))
  added (Some g) was new before' behind' is out free same mode_same alone row =
      let other : was.ends.first ≢ t = (λ e. never (is_some (h t)) (subst (λ (u : ℕ). is_some (h u) ≡ true) (sym (ap (λ (x : Holding). x.ends.first) same) ∙ e) is.row.first_in)
      (ap (λ (x : Option Mode). is_some x) out)) in
      let it : holding g.mode new.ends.first new.ends.last ≡ new = (λ i. record { mode = sym (mode_same ∙ ap (λ (x : Holding). x.mode) same) i; ends = new.ends }) in
      subst (λ (x : Holding). IsHolding (with_mode h t (Some m)) x before' behind') it
      (held_more h t m g new.ends.first new.ends.last before behind before' behind' is free (row other))

-- ---- who stands in the way

pub excludes_none : (m : Mode) → excludes (Some m) None ≡ false
excludes_none mode.Read = refl
excludes_none mode.Write = refl

pub nobody_bars : (h : ℕ → Option Mode) (m : Mode) (before behind : ℕ → Option ℕ) → IsFree h before behind → IsFreeFor h m
nobody_bars h m before behind free = λ t. ap (excludes (Some m)) (free t).0 ∙ excludes_none m

pub none_bars : (h : ℕ → Option Mode) (m : Mode) (g : Holding) (before behind : ℕ → Option ℕ) → IsHolding h g before behind
    → excludes (Some m) (Some g.mode) ≡ false → IsFreeFor h m
none_bars h m g before behind is free = λ t. by t (is_some (h t)) refl
  where
    by : (t : ℕ) (b : Bool) → is_some (h t) ≡ b → excludes (Some m) (h t) ≡ false
    by t true e = ap (excludes (Some m)) (is.modes t e) ∙ free
    by t false e = ap (excludes (Some m)) (some_none (h t) e) ∙ excludes_none m

pub first_bars : (h : ℕ → Option Mode) (m : Mode) (g : Holding) (before behind : ℕ → Option ℕ) → IsHolding h g before behind
    → excludes (Some m) (Some g.mode) ≡ true → IsLeastInTheWay h m (Some g.ends.first)
first_bars h m g before behind is bars = (
  ap (excludes (Some m)) (is.modes g.ends.first is.row.first_in) ∙ bars,
  λ u below. ap (excludes (Some m)) (some_none (h u) (by u below (is_some (h u)) refl)) ∙ excludes_none m,
)
  where
    by : (u : ℕ) → u < g.ends.first → (b : Bool) → is_some (h u) ≡ b → is_some (h u) ≡ false
    by u below false e = e
    by u below true e = absurd (omega (arith, below, is.row.least u e))

-- who stands in the way next
pub next_way : (h : ℕ → Option Mode) (m : Mode) (o : Option Holding) (before behind : ℕ → Option ℕ) → IsHeld h o before behind → (t : ℕ)
    → excludes (Some m) (h t) ≡ true → IsNext (λ u. excludes (Some m) (h u)) t (behind t)
next_way h m None before behind is t way = never _ way (ap (excludes (Some m)) (is t).0 ∙ excludes_none m)
next_way h m (Some g) before behind is t way = subst (λ (p : ℕ → Bool). IsNext p t (behind t)) (λ i. λ (u : ℕ). point u i) (is.row.next t there)
  where
    there : is_some (h t) ≡ true
    there = by (is_some (h t)) refl
      where
        by : (b : Bool) → is_some (h t) ≡ b → is_some (h t) ≡ true
        by true e = e
        by false e = never _ way (ap (excludes (Some m)) (some_none (h t) e) ∙ excludes_none m)

    point : (u : ℕ) → is_some (h u) ≡ excludes (Some m) (h u)
    point u = by (is_some (h u)) refl
      where
        by : (b : Bool) → is_some (h u) ≡ b → is_some (h u) ≡ excludes (Some m) (h u)
        by true e = e ∙ sym (ap (excludes (Some m)) (is.modes u e) ∙ (sym (ap (excludes (Some m)) (is.modes t there)) ∙ way))
        by false e = e ∙ sym (ap (excludes (Some m)) (some_none (h u) e) ∙ excludes_none m)

-- as a record is kept in a map
pub placed : (h : ℕ → Option Mode) (new made : List (Record × Holding)) (q : Record) (o : Option Holding) (before behind : ℕ → Option ℕ) → IsHeld h o before behind
    → new ≡ made → lookup (record_eq q) made ≡ o → IsHeld h (lookup (record_eq q) new) before behind
placed h new made q o before behind is same at = subst (λ (x : Option Holding). IsHeld h x before behind) (sym (ap (λ (es : List (Record × Holding)). lookup (record_eq q) es) same ∙ at)) is
