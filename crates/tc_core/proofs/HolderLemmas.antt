-- A look at the transactions that keep a lock out, one after another.
use Rattle.std.proofs.Common.{◌≡◌, ◌⊎◌, ℕ, zero, suc, ◌-◌, ◌^◌, ◌<◌, Bool, true, false, ◌||◌, List, [], ◌∷◌, length, get_or, Option, Some, None}
use Rattle.std.proofs.Common.{arith, refl, sym, ◌∙◌, ap, subst, inl, inr, true≢false}
use Rattle.std.proofs.lemmas.Bool.{cases_eq, cases_lt}
use Rattle.access_slots.specs.declared.lock.Lock.{Lock}
use Rattle.lock_table.specs.Clashes.{clashes, keeps_out}
use Rattle.lock_table.specs.Facts.{Table, held_by}
use Rattle.lock_table.specs.Rows.{IsLeast, IsNext}
use Rattle.lock_table.proofs.Steps.{any_lock}
use Rattle.slab.specs.Slab.{Slab}
use Rattle.tc_core.specs.Joining.Holders.{IsStill}
use Rattle.tc_core.specs.declared.transaction.Tx.{Tx}

never : {A : Type 0} (b : Bool) → b ≡ true → b ≡ false → A
never b yes_it no_it = absurd (true≢false (sym yes_it ∙ no_it))

-- below the one that is looked at; all, where there is none
abbrev pub IsPassed : Option ℕ → ℕ → Type 0
IsPassed None t = Unit {0}
IsPassed (Some u) t = t < u

-- each of those that pass the test stands still, as far as they were looked at
abbrev pub AreStill : (ℕ → Bool) → Slab Tx → Option ℕ → Type 0
AreStill p txns holder = (t : ℕ) → p t ≡ true → IsPassed holder t → IsStill txns t

abbrev pub IsIn : (ℕ → Bool) → Option ℕ → Type 0
IsIn p None = Unit {0}
IsIn p (Some t) = p t ≡ true

pub still_first : (p : ℕ → Bool) (txns : Slab Tx) (o : Option ℕ) → IsLeast p o → AreStill p txns o
still_first p txns None least = λ t here passed. never (p t) here (least t)
still_first p txns (Some u) least = λ t here passed. never (p t) here (least.1 t passed)

pub in_first : (p : ℕ → Bool) (o : Option ℕ) → IsLeast p o → IsIn p o
in_first p None least = tt
in_first p (Some u) least = least.0

pub still_next : (p : ℕ → Bool) (txns : Slab Tx) (u : ℕ) (o : Option ℕ) → AreStill p txns (Some u) → IsStill txns u → IsNext p u o → AreStill p txns o
still_next p txns u o are still next = λ t here passed. elim (cases_lt t u) [
  | inl below ↦ are t here below
  | inr above ↦ elim (cases_eq u t) [
    | inl same ↦ subst (IsStill txns) same still
    | inr ne ↦ by o next t (omega (arith, above, ne)) here passed
  ]
]
  where
    by : (o : Option ℕ) → IsNext p u o → (t : ℕ) → u < t → p t ≡ true → IsPassed o t → IsStill txns t
    by None s t above here passed = never (p t) here (s t above)
    by (Some n) s t above here passed = never (p t) here (s.2 t above passed)

pub in_next : (p : ℕ → Bool) (u : ℕ) (o : Option ℕ) → IsNext p u o → IsIn p o
in_next p u None next = tt
in_next p u (Some n) next = next.1

-- how many numbers are left to look at
abbrev pub left_above : Option ℕ → ℕ
left_above None = 0
left_above (Some t) = 2 ^ 64 - t

pub left_less : (p : ℕ → Bool) (u : ℕ) (o x : Option ℕ) → x ≡ Some u → u < 2 ^ 64 → IsNext p u o → left_above o < left_above x
left_less p u o x is small next = subst (λ (y : Option ℕ). left_above o < left_above y) (sym is) (by o next)
  where
    by : (o : Option ℕ) → IsNext p u o → left_above o < 2 ^ 64 - u
    by None s = omega (arith, small)
    by (Some n) s = omega (arith, small, s.0)

-- ---- locks one after another

-- each whose locks clash stands still, or they do so at a lock that is left
abbrev pub AreStillBut : Table → Slab Tx → List Lock → List Lock → Type 0
AreStillBut held txns all left = (t : ℕ) → clashes all (held_by held t) ≡ true → IsStill txns t ⊎ (clashes left (held_by held t) ≡ true)

pub still_after : (held : Table) (txns : Slab Tx) (all : List Lock) (l : Lock) (rest : List Lock) → AreStillBut held txns all (l ∷ rest)
    → ((t : ℕ) → keeps_out (held_by held) l t ≡ true → IsStill txns t) → AreStillBut held txns all rest
still_after held txns all l rest are still t clash = by (are t clash)
  where
    out : (b : Bool) → keeps_out (held_by held) l t ≡ b → clashes (l ∷ rest) (held_by held t) ≡ true → IsStill txns t ⊎ (clashes rest (held_by held t) ≡ true)
    out true e here = inl (still t e)
    out false e here = inr (sym (ap (λ (b : Bool). b || clashes rest (held_by held t)) e) ∙ here)

    by : IsStill txns t ⊎ (clashes (l ∷ rest) (held_by held t) ≡ true) → IsStill txns t ⊎ (clashes rest (held_by held t) ≡ true)
    by (inl s) = inl s
    by (inr here) = out (keeps_out (held_by held) l t) refl here

pub still_all : (held : Table) (txns : Slab Tx) (all left : List Lock) → left ≡ [] → AreStillBut held txns all left
    → (t : ℕ) → clashes all (held_by held t) ≡ true → IsStill txns t
still_all held txns all left none are t clash = by (subst (λ (ls : List Lock). IsStill txns t ⊎ (clashes ls (held_by held t) ≡ true)) none (are t clash))
  where
    by : IsStill txns t ⊎ (clashes [] (held_by held t) ≡ true) → IsStill txns t
    by (inl s) = s
    by (inr bad) = absurd (true≢false (sym bad))

-- a set with a lock that is kept out clashes
or_true : (b : Bool) → (b || true) ≡ true
or_true true = refl
or_true false = refl

pub clash_here : (held : Table) (t : ℕ) (locks : List Lock) (i : ℕ) → i < length locks → keeps_out (held_by held) (get_or locks i any_lock) t ≡ true
    → clashes locks (held_by held t) ≡ true
clash_here held t [] i inside out = absurd (omega (arith, inside))
clash_here held t (l ∷ locks) zero inside out = ap (λ (b : Bool). b || clashes locks (held_by held t)) out
clash_here held t (l ∷ locks) (suc i) inside out =
    ap (λ (b : Bool). keeps_out (held_by held) l t || b) (clash_here held t locks i (omega (arith, inside)) out) ∙ or_true (keeps_out (held_by held) l t)
