-- A record that transactions use stands among those of their operations, so a search of these finds the most used.
use Rattle.std.proofs.Common.{
  ◌≡◌,
  ◌∙◌,
  ℕ,
  zero,
  suc,
  ◌+◌,
  ◌<◌,
  ◌≤◌,
  ◌⊎◌,
  inl,
  inr,
  Bool,
  true,
  false,
  List,
  [],
  ◌∷◌,
  ◌++◌,
  length,
  Option,
  Some,
  None,
  arith,
  ap,
  sym,
  subst,
  refl,
  map,
  length-append,
  eq-or-lt_of_le,
}
use Rattle.std.specs.Prelude.{slice_get}
use Rattle.std.proofs.lemmas.Option.{slice_get_within}
use Rattle.access_slots.specs.declared.slot.Record.{Record}
use Rattle.access_slots.specs.Locks.{target}
use Rattle.access_slots.proofs.Records.{eq_is}
use Rattle.log_picture.specs.declared.way.Way.{Way}
use Rattle.log_picture.specs.declared.busiest.RecordRow.{RecordRow}
use Rattle.log_picture.specs.Ways.{is_of, uses}
use Rattle.log_picture.specs.Busiest.{target_of, targets_of, users_of, IsNew, AreBusiest}
use Rattle.log_picture.specs.Joining.Choosing.{users_in, IsCandidate, IsBetter, IsBest, AreMost}
use Rattle.log_picture.proofs.Laying.{at_end, some_same}

true_or_false : (b : Bool) → (b ≡ true) ⊎ (b ≡ false)
true_or_false true = inl refl
true_or_false false = inr refl

none_or_some : (n : ℕ) → (n ≡ 0) ⊎ (0 < n)
none_or_some zero = inl refl
none_or_some (suc n) = inr (omega arith)

in_front : {X : Type 0} (xs ys : List X) (k : ℕ) (x : X) → slice_get xs k ≡ Some x → slice_get (xs ++ ys) k ≡ Some x
in_front [] ys k x e = let inside = slice_get_within [] k x e in absurd (omega (arith, inside))
in_front (y ∷ xs) ys zero x e = e
in_front (y ∷ xs) ys (suc k) x e = in_front xs ys k x e

behind : {X : Type 0} (xs ys : List X) (k : ℕ) (x : X) → slice_get ys k ≡ Some x → (j : ℕ) × (slice_get (xs ++ ys) j ≡ Some x)
behind [] ys k x e = (k, e)
behind (y ∷ xs) ys k x e = let more = behind xs ys k x e in (suc more.0, more.1)

way_listed : (ways : List Way) (r : Record) → uses r ways ≡ true → (k : ℕ) × (slice_get (map target_of ways) k ≡ Some r)
way_listed [] r used = absurd (cc)
way_listed (w ∷ ways) r used = elim (true_or_false (is_of r w)) [
  | inl own ↦ (0, ap Some (eq_is (target w.op) r own))
  | inr other ↦ let more = way_listed ways r (rw other at used) in (suc more.0, more.1)
]

listed : (all : List (List Way)) (r : Record) → 0 < users_of r all → (k : ℕ) × (slice_get (targets_of all) k ≡ Some r)
listed [] r some = absurd (omega (arith, some))
listed (ways ∷ all) r some = elim (true_or_false (uses r ways)) [
  | inl own ↦ let there = way_listed ways r own in (there.0, in_front (map target_of ways) (targets_of all) there.0 r there.1)
  | inr other ↦
      let more = listed all r (rw other at some) in
      behind (map target_of ways) (targets_of all) more.0 r more.1
]

-- what holds of the records of operations holds of all
pub most_of_all : (all : List (List Way)) (rows : List RecordRow) (best : Option RecordRow)
    → IsBest all (targets_of all) rows (length (targets_of all)) best → (r : Record) → IsNew rows r → users_of r all ≤ users_in best
most_of_all all rows best is r new = elim (none_or_some (users_of r all)) [
  | inl none ↦ omega (arith, none)
  | inr some ↦ let there = listed all r some in is.most there.0 r (slice_get_within (targets_of all) there.0 r there.1) there.1 new
]

new_before : (rows : List RecordRow) (row : RecordRow) (r : Record) → IsNew (rows ++ row ∷ []) r → IsNew rows r
new_before rows row r new k old at = new k old (in_front rows (row ∷ []) k old at)

pub row_more : (all : List (List Way)) (rows : List RecordRow) (row : RecordRow) → length rows < 16 → AreMost all rows
    → IsBest all (targets_of all) rows (length (targets_of all)) (Some row) → AreMost all (rows ++ row ∷ [])
row_more all rows row room so_far best =
    let own = best.candidate row refl in
    record {
      few = omega (arith, room, length-append rows (row ∷ []));
      users = λ k x at. elim (at_end rows row k x at) [
        | inl old ↦ so_far.users k x old
        | inr new ↦ subst (λ (y : RecordRow). (y.users ≡ users_of y.«record» all) × (0 < y.users)) new.1 (own.users, own.used)
      ];
      others = λ r new k x at. elim (at_end rows row k x at) [
        | inl old ↦ so_far.others r (new_before rows row r new) k x old
        | inr last ↦
            subst (λ (y : RecordRow). users_of r all ≤ y.users) last.1 (most_of_all all rows (Some row) best r (new_before rows row r new))
      ];
    }

pub none_more : (all : List (List Way)) (rows : List RecordRow) → AreMost all rows
    → IsBest all (targets_of all) rows (length (targets_of all)) None → AreBusiest all rows 16
none_more all rows so_far best = record {
  few = so_far.few;
  users = so_far.users;
  others = so_far.others;
  whole = λ r new less. let none = most_of_all all rows None best r new in omega (arith, none);
}

pub full : (all : List (List Way)) (rows : List RecordRow) → AreMost all rows → 16 ≤ length rows → AreBusiest all rows 16
full all rows so_far many = record {
  few = so_far.few;
  users = so_far.users;
  others = so_far.others;
  whole = λ r new less. absurd (omega (arith, less, many));
}

pub own_is_better : (all : List (List Way)) (rows : List RecordRow) (best : Option RecordRow) (r : Record) (users : ℕ) → users ≡ users_of r all
    → users_in best < users → IsNew rows r → IsBetter all rows best r (Some (record { «record» = r; users = users }))
own_is_better all rows best r users is more new =
    let own : RecordRow = record { «record» = r; users = users } in
    record {
      either = λ row e. inr (subst (IsCandidate all rows) (some_same own row e) (record { users = is; used = omega (arith, more); new = new }));
      more = omega (arith, more);
      own = λ _. omega (arith, is);
    }

pub one_more_record : (all : List (List Way)) (records : List Record) (rows : List RecordRow) (n : ℕ) (old best : Option RecordRow) (r : Record)
    → slice_get records n ≡ Some r → IsBest all records rows n old → IsBetter all rows old r best → IsBest all records rows (n + 1) best
one_more_record all records rows n old best r at so_far step = record {
  candidate = λ row e. elim (step.either row e) [ inl was ↦ so_far.candidate row was | inr own ↦ own ];
  most = λ k q less there new.
      let low : k ≤ n = omega (arith, less) in
      elim (eq-or-lt_of_le low) [
        | inl same ↦
            let is : r ≡ q = some_same r q (sym at ∙ (ap (slice_get records) (sym same) ∙ there)) in
            let few = step.own (subst (IsNew rows) (sym is) new) in
            omega (arith, subst (λ (x : Record). users_of x all ≤ users_in best) is few)
        | inr below ↦ let few = so_far.most k q below there new in let rises = step.more in omega (arith, few, rises)
      ];
}

pub in_all : (all : List (List Way)) (records kept : List Record) (rows slice : List RecordRow) (best : Option RecordRow)
    → records ≡ kept → kept ≡ targets_of all → slice ≡ rows → IsBest all records slice (length records) best
    → IsBest all (targets_of all) rows (length (targets_of all)) best
in_all all records kept rows slice best same is here found =
    subst (λ (rs : List Record). IsBest all rs rows (length rs) best) (same ∙ is)
    (subst (λ (xs : List RecordRow). IsBest all records xs (length records) best) here found)
