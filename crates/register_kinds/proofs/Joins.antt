-- What fits a kind fits a join of it.
use Rattle.std.proofs.Common.{◌≡◌, ℕ, zero, suc, ◌==◌, Bool, true, false, ◌&&◌, Option, Some, None, List, [], ◌∷◌, refl, subst, sym, inl, inr}
use Rattle.std.specs.Prelude.{ℤ, IsSome}
use Rattle.std.specs.List.{slice_index_or}
use Rattle.std.specs.Ordering.{int_eq}
use Rattle.std.proofs.lemmas.Bool.{eqb-true}
use Rattle.std.proofs.lemmas.Bool.Decides.{Decides-int_eq}
use Rattle.semantics.specs.Step.{Setting}
use Rattle.register_kinds.specs.declared.kind.Kind.{Kind}
use Rattle.register_kinds.specs.declared.kind.Kind.TheVariants.{Empty, Number, Const, Stack, Args, Buffer, MaybeBuffer}
use Rattle.register_kinds.specs.declared.kinds.Kinds.{Kinds}
use Rattle.register_kinds.specs.Kinds.{join_of, join_all, join_kinds, is_present, same_or_number}
use Rattle.register_kinds.specs.Arriving.{merge}
use Rattle.register_kinds.specs.Fitting.{Fits, IsWeaker}

some_by : (v : Option ℕ) (n : ℕ) → v ≡ Some n → IsSome v
some_by v n e = subst (λ (o : Option ℕ). IsSome o) (sym e) refl

pub some_of : (s : Setting) (k : Kind) (v : Option ℕ) → is_present k ≡ true → Fits s k v → IsSome v
some_of s Empty v p f = absurd cc
some_of s Number v p f = f
some_of s (Const n) v p f = some_by v n f.0
some_of s (Stack o) v p f = some_by v _ f
some_of s (Args o) v p f = some_by v _ f
some_of s (Buffer k o) v p f = some_by v _ f.0
some_of s (MaybeBuffer k) v p f = elim f.0 [ inl e ↦ some_by v _ e | inr e ↦ some_by v _ e ]

-- ---- two kinds

same_fits : (s : Setting) (t : Bool) (k : Kind) (v : Option ℕ) → (t ≡ true → Fits s k v) → IsSome v → Fits s (same_or_number t k) v
same_fits s true k v f some = f refl
same_fits s false k v f some = some

pub both : (a b : Bool) → (a && b) ≡ true → (a ≡ true) × (b ≡ true)
both true true e = (refl, refl)
both true false e = absurd cc
both false b e = absurd cc

pub int_is : (o p : ℤ) → int_eq o p ≡ true → o ≡ p
int_is o p e = (Decides-int_eq o p).0 e

left_fits : (s : Setting) (a b : Kind) (v : Option ℕ) → Fits s a v → Fits s (join_of a b) v
left_fits s Empty b v f = tt
left_fits s Number Empty v f = tt
left_fits s Number b v f = f
left_fits s (Const m) Empty v f = tt
left_fits s (Const m) (Const n) v f = same_fits s (m == n) (Const m) v (λ e. f) (some_of s (Const m) v refl f)
left_fits s (Const m) b v f = some_of s (Const m) v refl f
left_fits s (Stack o) Empty v f = tt
left_fits s (Stack o) (Stack p) v f = same_fits s (int_eq o p) (Stack o) v (λ e. f) (some_of s (Stack o) v refl f)
left_fits s (Stack o) b v f = some_of s (Stack o) v refl f
left_fits s (Args o) Empty v f = tt
left_fits s (Args o) (Args p) v f = same_fits s (int_eq o p) (Args o) v (λ e. f) (some_of s (Args o) v refl f)
left_fits s (Args o) b v f = some_of s (Args o) v refl f
left_fits s (Buffer k o) Empty v f = tt
left_fits s (Buffer k o) (Buffer l p) v f = same_fits s ((k == l) && int_eq o p) (Buffer k o) v (λ e. f) (some_of s (Buffer k o) v refl f)
left_fits s (Buffer k o) b v f = some_of s (Buffer k o) v refl f
left_fits s (MaybeBuffer k) Empty v f = tt
left_fits s (MaybeBuffer k) (MaybeBuffer l) v f = same_fits s (k == l) (MaybeBuffer k) v (λ e. f) (some_of s (MaybeBuffer k) v refl f)
left_fits s (MaybeBuffer k) b v f = some_of s (MaybeBuffer k) v refl f

right_fits : (s : Setting) (a b : Kind) (v : Option ℕ) → Fits s b v → Fits s (join_of a b) v
right_fits s Empty b v f = tt
right_fits s Number Empty v f = tt
right_fits s Number Number v f = f
right_fits s Number (Const n) v f = some_of s (Const n) v refl f
right_fits s Number (Stack p) v f = some_of s (Stack p) v refl f
right_fits s Number (Args p) v f = some_of s (Args p) v refl f
right_fits s Number (Buffer l p) v f = some_of s (Buffer l p) v refl f
right_fits s Number (MaybeBuffer l) v f = some_of s (MaybeBuffer l) v refl f
right_fits s (Const m) Empty v f = tt
right_fits s (Const m) Number v f = f
right_fits s (Const m) (Const n) v f =
    same_fits s (m == n) (Const m) v (λ e. subst (λ (k : ℕ). Fits s (Const k) v) (sym (eqb-true m n e)) f) (some_of s (Const n) v refl f)
right_fits s (Const m) (Stack p) v f = some_of s (Stack p) v refl f
right_fits s (Const m) (Args p) v f = some_of s (Args p) v refl f
right_fits s (Const m) (Buffer l p) v f = some_of s (Buffer l p) v refl f
right_fits s (Const m) (MaybeBuffer l) v f = some_of s (MaybeBuffer l) v refl f
right_fits s (Stack o) Empty v f = tt
right_fits s (Stack o) Number v f = f
right_fits s (Stack o) (Const n) v f = some_of s (Const n) v refl f
right_fits s (Stack o) (Stack p) v f =
    same_fits s (int_eq o p) (Stack o) v (λ e. subst (λ (z : ℤ). Fits s (Stack z) v) (sym (int_is o p e)) f) (some_of s (Stack p) v refl f)
right_fits s (Stack o) (Args p) v f = some_of s (Args p) v refl f
right_fits s (Stack o) (Buffer l p) v f = some_of s (Buffer l p) v refl f
right_fits s (Stack o) (MaybeBuffer l) v f = some_of s (MaybeBuffer l) v refl f
right_fits s (Args o) Empty v f = tt
right_fits s (Args o) Number v f = f
right_fits s (Args o) (Const n) v f = some_of s (Const n) v refl f
right_fits s (Args o) (Stack p) v f = some_of s (Stack p) v refl f
right_fits s (Args o) (Args p) v f =
    same_fits s (int_eq o p) (Args o) v (λ e. subst (λ (z : ℤ). Fits s (Args z) v) (sym (int_is o p e)) f) (some_of s (Args p) v refl f)
right_fits s (Args o) (Buffer l p) v f = some_of s (Buffer l p) v refl f
right_fits s (Args o) (MaybeBuffer l) v f = some_of s (MaybeBuffer l) v refl f
right_fits s (Buffer k o) Empty v f = tt
right_fits s (Buffer k o) Number v f = f
right_fits s (Buffer k o) (Const n) v f = some_of s (Const n) v refl f
right_fits s (Buffer k o) (Stack p) v f = some_of s (Stack p) v refl f
right_fits s (Buffer k o) (Args p) v f = some_of s (Args p) v refl f
right_fits s (Buffer k o) (Buffer l p) v f =
    same_fits s ((k == l) && int_eq o p) (Buffer k o) v
    (λ e.
    let t = both (k == l) (int_eq o p) e in
    subst (λ (z : ℤ). Fits s (Buffer k z) v) (sym (int_is o p t.1)) (subst (λ (j : ℕ). Fits s (Buffer j p) v) (sym (eqb-true k l t.0)) f))
    (some_of s (Buffer l p) v refl f)
right_fits s (Buffer k o) (MaybeBuffer l) v f = some_of s (MaybeBuffer l) v refl f
right_fits s (MaybeBuffer k) Empty v f = tt
right_fits s (MaybeBuffer k) Number v f = f
right_fits s (MaybeBuffer k) (Const n) v f = some_of s (Const n) v refl f
right_fits s (MaybeBuffer k) (Stack p) v f = some_of s (Stack p) v refl f
right_fits s (MaybeBuffer k) (Args p) v f = some_of s (Args p) v refl f
right_fits s (MaybeBuffer k) (Buffer l p) v f = some_of s (Buffer l p) v refl f
right_fits s (MaybeBuffer k) (MaybeBuffer l) v f =
    same_fits s (k == l) (MaybeBuffer k) v (λ e. subst (λ (j : ℕ). Fits s (MaybeBuffer j) v) (sym (eqb-true k l e)) f) (some_of s (MaybeBuffer l) v refl f)

-- ---- eleven registers

abbrev in_row : List Kind → ℕ → Kind
in_row ks r = slice_index_or ks r Empty

left_at : (s : Setting) (ks ls : List Kind) (r : ℕ) (v : Option ℕ) → Fits s (in_row ks r) v → Fits s (in_row (join_all ks ls) r) v
left_at s [] ls r v f = tt
left_at s (k ∷ ks) [] r v f = tt
left_at s (k ∷ ks) (l ∷ ls) zero v f = left_fits s k l v f
left_at s (k ∷ ks) (l ∷ ls) (suc r) v f = left_at s ks ls r v f

right_at : (s : Setting) (ks ls : List Kind) (r : ℕ) (v : Option ℕ) → Fits s (in_row ls r) v → Fits s (in_row (join_all ks ls) r) v
right_at s [] ls r v f = tt
right_at s (k ∷ ks) [] r v f = tt
right_at s (k ∷ ks) (l ∷ ls) zero v f = right_fits s k l v f
right_at s (k ∷ ks) (l ∷ ls) (suc r) v f = right_at s ks ls r v f

pub weaker_refl : (ks : Kinds) → IsWeaker ks ks
weaker_refl ks = record { fits = λ s registers all. all }

pub weaker_trans : (a b c : Kinds) → IsWeaker a b → IsWeaker b c → IsWeaker a c
weaker_trans a b c p q = record { fits = λ s registers all. q.fits s registers (p.fits s registers all) }

pub weaker_left : (ks ls : Kinds) → IsWeaker ks (join_kinds ks ls)
weaker_left ks ls = record { fits = λ s registers all. record { at = λ r. left_at s ks.registers ls.registers r (slice_index_or registers r None) (all.at r) } }

pub weaker_right : (ks ls : Kinds) → IsWeaker ls (join_kinds ks ls)
weaker_right ks ls = record { fits = λ s registers all. record { at = λ r. right_at s ks.registers ls.registers r (slice_index_or registers r None) (all.at r) } }

pub weaker_merge : (before : Option Kinds) (after : Kinds) → IsWeaker after (merge before after)
weaker_merge None after = weaker_refl after
weaker_merge (Some ks) after = weaker_right ks after
