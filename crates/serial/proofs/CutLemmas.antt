-- A list without the entries of later numbers.
use Rattle.std.proofs.Common.{◌≡◌, ℕ, zero, suc, ◌+◌, ◌<◌, ◌≤◌, Bool, true, false, ◌&&◌, List, [], ◌∷◌, Some, None}
use Rattle.std.proofs.Common.{arith, refl, sym, ◌∙◌, ap, subst, inl, inr, if◌then◌else◌}
use Rattle.std.specs.Prelude.{slice_get, nat_lt}
use Rattle.std.proofs.lemmas.Bool.{cases_eq, cases_lt, cond-true, cond-false}
use Rattle.std.proofs.lemmas.Bool.Decides.{nat_tests}
use Rattle.access_slots.specs.declared.slot.Record.{Record}
use Rattle.access_slots.specs.declared.op.Said.{Said}
use Rattle.access_slots.specs.Locks.{record_eq, target}
use Rattle.data_component.specs.Performed.{Performed, said_under}
use Rattle.transactions.proofs.StandingLemmas.{none_some}
use Rattle.history.specs.Redo.{is_done}
use Rattle.serial.specs.Lists.{writes_on, NoTwice, AllBelow}
use Rattle.serial.specs.Joining.Behind.{IsEnd}
use Rattle.serial.proofs.ListLemmas.{under_other, under_same, slice_more}
use Rattle.serial.proofs.RedoLemmas.{end_self}

-- the entries of numbers up to n
abbrev pub up_to : ℕ → List Performed → List Performed
up_to n [] = []
up_to n (e ∷ list) = if nat_lt n e.0 then up_to n list else e ∷ up_to n list

lt_is : (a b : ℕ) → a < b → nat_lt a b ≡ true
lt_is a b less = grind (arith, nat_tests)

lt_not : (a b : ℕ) → b ≤ a → nat_lt a b ≡ false
lt_not a b le = grind (arith, nat_tests)

pub dropped : (n : ℕ) (e : Performed) (list : List Performed) → n < e.0 → up_to n (e ∷ list) ≡ up_to n list
dropped n e list above = cond-true (nat_lt n e.0) (up_to n list) (e ∷ up_to n list) (lt_is n e.0 above)

pub kept : (n : ℕ) (e : Performed) (list : List Performed) → e.0 ≤ n → up_to n (e ∷ list) ≡ e ∷ up_to n list
kept n e list low = cond-false (nat_lt n e.0) (up_to n list) (e ∷ up_to n list) (lt_not n e.0 low)

-- ---- what stands in it

pub under_cut : (n m : ℕ) (list : List Performed) → m ≤ n → said_under (up_to n list) m ≡ said_under list m
under_cut n m [] low = refl
under_cut n m (e ∷ list) low =
    let ih = under_cut n m list low in
    elim (cases_lt n e.0) [
      | inl above ↦ ap (λ (l : List Performed). said_under l m) (dropped n e list above)
          ∙ (ih ∙ sym (under_other e.0 m e.1 e.2 list (omega (arith, above, low))))
      | inr below ↦ elim (cases_eq e.0 m) [
        | inl same ↦ ap (λ (l : List Performed). said_under l m) (kept n e list below)
            ∙ (under_same e.0 m e.1 e.2 (up_to n list) same ∙ sym (under_same e.0 m e.1 e.2 list same))
        | inr other ↦ ap (λ (l : List Performed). said_under l m) (kept n e list below)
            ∙ (under_other e.0 m e.1 e.2 (up_to n list) other ∙ (ih ∙ sym (under_other e.0 m e.1 e.2 list other)))
      ]
    ]

under_none : (n m : ℕ) (list : List Performed) → n < m → said_under (up_to n list) m ≡ None
under_none n m [] above = refl
under_none n m (e ∷ list) above =
    let ih = under_none n m list above in
    elim (cases_lt n e.0) [
      | inl off ↦ ap (λ (l : List Performed). said_under l m) (dropped n e list off) ∙ ih
      | inr below ↦ ap (λ (l : List Performed). said_under l m) (kept n e list below)
          ∙ (under_other e.0 m e.1 e.2 (up_to n list) (omega (arith, below, above)) ∙ ih)
    ]

pub under_back : (n m : ℕ) (list : List Performed) (said : Said) → said_under (up_to n list) m ≡ Some said → (m ≤ n) × (said_under list m ≡ Some said)
under_back n m list said e =
    elim (cases_lt n m) [
      | inl above ↦ absurd (none_some _ said (under_none n m list above) e)
      | inr low ↦ (low, sym (under_cut n m list low) ∙ e)
    ]

-- an entry of the list, of a number up to n
pub record Kept (n : ℕ) (list : List Performed) (e : Performed) : Type 0 where
  pub place : ℕ
  pub at : slice_get list place ≡ Some e
  pub low : e.0 ≤ n

kept_more : (n : ℕ) (x : Performed) (list : List Performed) (e : Performed) → Kept n list e → Kept n (x ∷ list) e
kept_more n x list e w = record { place = suc w.place; at = w.at; low = w.low }

pub entry_back : (n : ℕ) (list : List Performed) (k : ℕ) (e : Performed) → slice_get (up_to n list) k ≡ Some e → Kept n list e
entry_back n [] k e is = absurd (none_some _ e refl is)
entry_back n (x ∷ list) k e is =
    elim (cases_lt n x.0) [
      | inl off ↦ kept_more n x list e (entry_back n list k e (ap (λ (l : List Performed). slice_get l k) (sym (dropped n x list off)) ∙ is))
      | inr below ↦
          slice_more x (up_to n list) (Kept n (x ∷ list)) (record { place = zero; at = refl; low = below })
          (λ j y at. kept_more n x list y (entry_back n list j y at)) k e
          (ap (λ (l : List Performed). slice_get l k) (sym (kept n x list below)) ∙ is)
    ]

pub once_cut : (n : ℕ) (list : List Performed) → NoTwice list → NoTwice (up_to n list)
once_cut n [] once = tt
once_cut n (e ∷ list) once =
    let ih = once_cut n list once.1 in
    elim (cases_lt n e.0) [
      | inl off ↦ subst NoTwice (sym (dropped n e list off)) ih
      | inr below ↦ subst NoTwice (sym (kept n e list below)) (under_cut n e.0 list below ∙ once.0, ih)
    ]

-- ---- a record's writes

pub off_if : (b : Bool) (n : ℕ) (e : Performed) (list : List Performed) → n < e.0 → up_to n (if b then e ∷ list else list) ≡ up_to n list
off_if true n e list above = dropped n e list above
off_if false n e list above = refl

pub kept_if : (b : Bool) (n : ℕ) (e : Performed) (list : List Performed) → e.0 ≤ n
    → up_to n (if b then e ∷ list else list) ≡ (if b then e ∷ up_to n list else up_to n list)
kept_if true n e list low = kept n e list low
kept_if false n e list low = refl

pub writes_cut : (r : Record) (n : ℕ) (list : List Performed) → writes_on r (up_to n list) ≡ up_to n (writes_on r list)
writes_cut r n [] = refl
writes_cut r n (e ∷ list) =
    let ih = writes_cut r n list in
    elim (cases_lt n e.0) [
      | inl off ↦ ap (writes_on r) (dropped n e list off) ∙ (ih ∙ sym (off_if (record_eq (target e.1) r && is_done e.2) n e (writes_on r list) off))
      | inr below ↦
          ap (writes_on r) (kept n e list below)
          ∙ (ap (λ (l : List Performed). if record_eq (target e.1) r && is_done e.2 then e ∷ l else l) ih
          ∙ sym (kept_if (record_eq (target e.1) r && is_done e.2) n e (writes_on r list) below))
    ]

-- ---- a list that has no later numbers

pub cut_all : (n : ℕ) (list : List Performed) → AllBelow (n + 1) list → up_to n list ≡ list
cut_all n [] below = refl
cut_all n (e ∷ list) below =
    let less = below.0 in
    kept n e list (omega (arith, less)) ∙ ap (λ (l : List Performed). e ∷ l) (cut_all n list below.1)

pub all_below : (n : ℕ) (list : List Performed) → ((k : ℕ) (e : Performed) → slice_get list k ≡ Some e → e.0 ≤ n) → AllBelow (n + 1) list
all_below n [] all = tt
all_below n (e ∷ list) all = (let low = all zero e refl in omega (arith, low), all_below n list (λ k x is. all (suc k) x is))

pub cut_cut : (m n : ℕ) (list : List Performed) → n ≤ m → up_to n (up_to m list) ≡ up_to n list
cut_cut m n [] le = refl
cut_cut m n (e ∷ list) le =
    let ih = cut_cut m n list le in
    elim (cases_lt m e.0) [
      | inl off ↦ ap (up_to n) (dropped m e list off) ∙ (ih ∙ sym (dropped n e list (omega (arith, off, le))))
      | inr below ↦ elim (cases_lt n e.0) [
        | inl off ↦ ap (up_to n) (kept m e list below) ∙ (dropped n e (up_to m list) off ∙ (ih ∙ sym (dropped n e list off)))
        | inr low ↦ ap (up_to n) (kept m e list below) ∙ (kept n e (up_to m list) low ∙ (ap (λ (l : List Performed). e ∷ l) ih ∙ sym (kept n e list low)))
      ]
    ]

-- ---- what was cut back

pub end_cut : (n : ℕ) (big small : List Performed) → IsEnd big small → IsEnd (up_to n big) (up_to n small)
end_cut n [] small e = ap (up_to n) e
end_cut n (x ∷ big) small (inl e) = subst (λ (l : List Performed). IsEnd (up_to n (x ∷ big)) (up_to n l)) (sym e) (end_self (up_to n (x ∷ big)))
end_cut n (x ∷ big) small (inr e) =
    let ih = end_cut n big small e in
    elim (cases_lt n x.0) [
      | inl off ↦ subst (λ (l : List Performed). IsEnd l (up_to n small)) (sym (dropped n x big off)) ih
      | inr low ↦ subst (λ (l : List Performed). IsEnd l (up_to n small)) (sym (kept n x big low)) (inr ih)
    ]
