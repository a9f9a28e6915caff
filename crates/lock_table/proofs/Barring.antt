-- What stands in the way of locks, one after another.
use Rattle.std.proofs.Common.{◌≡◌, ℕ, Bool, true, false, List, ◌∷◌, refl, sym, ap, ◌∙◌}
use Rattle.std.specs.Prelude.{Option, Some, None}
use Rattle.std.proofs.lemmas.Bool.{cond-true, cond-false}
use Rattle.access_slots.specs.declared.slot.Record.{Record}
use Rattle.access_slots.specs.declared.slot.Mode.{Mode}
use Rattle.access_slots.specs.declared.lock.Lock.{Lock}
use Rattle.access_slots.specs.Locks.{record_eq, mode_in, RisingFrom}
use Rattle.access_slots.specs.Held.{Held, Wanted, excludes, in_the_way, IsFirstInTheWay}
use Rattle.access_slots.proofs.Records.{eq_same, eq_is}
use Rattle.access_slots.proofs.Locking.{none_above}
use Rattle.lock_table.specs.Holds.{IsFreeFor, IsLeastInTheWay}

module _ (l : Lock) (rest : List Lock) (rises : RisingFrom l.«record» rest) (held : Held) where
  own_mode : mode_in (l ∷ rest) l.«record» ≡ Some l.mode
  own_mode = cond-true _ (Some l.mode) (mode_in rest l.«record») (eq_same l.«record»)

  -- nobody keeps this lock out, so who stands in the way does so at a later one
  pub way_later : IsFreeFor (λ t. held t l.«record») l.mode → (r : Record) (t : ℕ)
      → in_the_way held (mode_in (l ∷ rest)) r t ≡ in_the_way held (mode_in rest) r t
  way_later free r t = by (record_eq l.«record» r) refl
    where
      by : (b : Bool) → record_eq l.«record» r ≡ b → in_the_way held (mode_in (l ∷ rest)) r t ≡ in_the_way held (mode_in rest) r t
      by true e =
          let same = eq_is l.«record» r e in
          let none : mode_in rest r ≡ None = ap (mode_in rest) (sym same) ∙ none_above l.«record» rest rises in
          ap (λ (o : Option Mode). excludes o (held t r)) (cond-true _ (Some l.mode) (mode_in rest r) e)
          ∙ ap (λ (q : Record). excludes (Some l.mode) (held t q)) (sym same)
          ∙ free t
          ∙ sym (ap (λ (o : Option Mode). excludes o (held t r)) none)
      by false e = ap (λ (o : Option Mode). excludes o (held t r)) (cond-false _ (Some l.mode) (mode_in rest r) e)

  -- somebody does: this is the first
  pub way_first : (t : ℕ) → IsLeastInTheWay (λ u. held u l.«record») l.mode (Some t) → IsFirstInTheWay held (mode_in (l ∷ rest)) l.«record» t
  way_first t least = record {
    stands = ap (λ (o : Option Mode). excludes o (held t l.«record»)) own_mode ∙ least.0;
    least_record = λ q u less. ap (λ (o : Option Mode). excludes o (held u q)) (none_above q (l ∷ rest) (less, rises));
    least_holder = λ u below. ap (λ (o : Option Mode). excludes o (held u l.«record»)) own_mode ∙ least.1 u below;
  }

pub first_of : (held : Held) (w v : Wanted) (r : Record) (t : ℕ) → ((q : Record) (u : ℕ) → in_the_way held w q u ≡ in_the_way held v q u)
    → IsFirstInTheWay held v r t → IsFirstInTheWay held w r t
first_of held w v r t same first = record {
  stands = same r t ∙ first.stands;
  least_record = λ q u less. same q u ∙ first.least_record q u less;
  least_holder = λ u below. same r u ∙ first.least_holder u below;
}
