-- Joins may be taken in any order.
use Rattle.std.proofs.Common.{◌≡◌, ℕ, ◌==◌, Bool, true, false, ◌&&◌, Option, Some, None, List, [], ◌∷◌, eqb, cond}
use Rattle.std.proofs.Common.{refl, sym, ap, ap₂, ◌∙◌, subst, ◌⊎◌, inl, inr}
use Rattle.std.specs.Prelude.{ℤ}
use Rattle.std.specs.Ordering.{int_eq}
use Rattle.std.proofs.lemmas.Bool.{eqb-true, eq-eqb}
use Rattle.std.proofs.lemmas.Bool.Decides.{Decides-int_eq}
use Rattle.register_kinds.specs.declared.kind.Kind.{Kind}
use Rattle.register_kinds.specs.declared.kind.Kind.TheVariants.{Empty, Number, Const, Stack, Args, Buffer, MaybeBuffer}
use Rattle.register_kinds.specs.declared.kinds.Kinds.{Kinds}
use Rattle.register_kinds.specs.Kinds.{join_of, join_all, join_kinds, same_or_number}
use Rattle.register_kinds.specs.Arriving.{merge, along}
use Rattle.register_kinds.proofs.Joins.{both, int_is}

-- ---- two kinds

same_int : (o : ℤ) → int_eq o o ≡ true
same_int o = (Decides-int_eq o o).1 refl

join_same : (k : Kind) → join_of k k ≡ k
join_same Empty = refl
join_same Number = refl
join_same (Const n) = ap (λ (t : Bool). same_or_number t (Const n)) (eq-eqb n n refl)
join_same (Stack o) = ap (λ (t : Bool). same_or_number t (Stack o)) (same_int o)
join_same (Args o) = ap (λ (t : Bool). same_or_number t (Args o)) (same_int o)
join_same (Buffer k o) = ap₂ (λ (t u : Bool). same_or_number (t && u) (Buffer k o)) (eq-eqb k k refl) (same_int o)
join_same (MaybeBuffer k) = ap (λ (t : Bool). same_or_number t (MaybeBuffer k)) (eq-eqb k k refl)

join_empty : (k : Kind) → join_of k Empty ≡ Empty
join_empty Empty = refl
join_empty Number = refl
join_empty (Const n) = refl
join_empty (Stack o) = refl
join_empty (Args o) = refl
join_empty (Buffer k o) = refl
join_empty (MaybeBuffer k) = refl

-- one of two is empty, or they are the same, or all that is left is a number
abbrev Joined : Kind → Kind → Type 0
Joined a b = (a ≡ Empty) ⊎ ((b ≡ Empty) ⊎ ((a ≡ b) ⊎ (join_of a b ≡ Number)))

tested : (a b : Kind) (t : Bool) → (t ≡ true → a ≡ b) → (a ≡ b) ⊎ (same_or_number t a ≡ Number)
tested a b true same = inl (same refl)
tested a b false same = inr refl

joined : (a b : Kind) → Joined a b
joined Empty b = inl refl
joined Number Empty = inr (inl refl)
joined Number b = inr (inr (inr refl))
joined (Const m) Empty = inr (inl refl)
joined (Const m) (Const n) = inr (inr (tested (Const m) (Const n) (m == n) (λ e. ap (λ (k : ℕ). Const k) (eqb-true m n e))))
joined (Const m) b = inr (inr (inr refl))
joined (Stack o) Empty = inr (inl refl)
joined (Stack o) (Stack p) = inr (inr (tested (Stack o) (Stack p) (int_eq o p) (λ e. ap (λ (z : ℤ). Stack z) (int_is o p e))))
joined (Stack o) b = inr (inr (inr refl))
joined (Args o) Empty = inr (inl refl)
joined (Args o) (Args p) = inr (inr (tested (Args o) (Args p) (int_eq o p) (λ e. ap (λ (z : ℤ). Args z) (int_is o p e))))
joined (Args o) b = inr (inr (inr refl))
joined (Buffer k o) Empty = inr (inl refl)
joined (Buffer k o) (Buffer l p) =
    inr (inr (tested (Buffer k o) (Buffer l p) ((k == l) && int_eq o p)
    (λ e.
    let t = both (k == l) (int_eq o p) e in
    ap₂ (λ (j : ℕ) (z : ℤ). Buffer j z) (eqb-true k l t.0) (int_is o p t.1))))
joined (Buffer k o) b = inr (inr (inr refl))
joined (MaybeBuffer k) Empty = inr (inl refl)
joined (MaybeBuffer k) (MaybeBuffer l) = inr (inr (tested (MaybeBuffer k) (MaybeBuffer l) (k == l) (λ e. ap (λ (j : ℕ). MaybeBuffer j) (eqb-true k l e))))
joined (MaybeBuffer k) b = inr (inr (inr refl))

empty_number : Empty ≡ Number → ⊥
empty_number e = cc

-- neither of two is empty whose join is a number
number_right : (a b : Kind) → join_of a b ≡ Number → join_of a Number ≡ Number
number_right Empty b e = absurd (empty_number e)
number_right Number b e = refl
number_right (Const n) b e = refl
number_right (Stack o) b e = refl
number_right (Args o) b e = refl
number_right (Buffer k o) b e = refl
number_right (MaybeBuffer k) b e = refl

number_left : (a b : Kind) → join_of a b ≡ Number → join_of Number b ≡ Number
number_left a Empty e = absurd (empty_number (sym (join_empty a) ∙ e))
number_left a Number e = refl
number_left a (Const n) e = refl
number_left a (Stack o) e = refl
number_left a (Args o) e = refl
number_left a (Buffer k o) e = refl
number_left a (MaybeBuffer k) e = refl

swap_number : (a b : Kind) → join_of a b ≡ Number → Joined b a → join_of a b ≡ join_of b a
swap_number a b e (inl none) = absurd (empty_number (sym (join_empty a) ∙ ap (join_of a) (sym none) ∙ e))
swap_number a b e (inr (inl none)) = absurd (empty_number (ap (λ (k : Kind). join_of k b) (sym none) ∙ e))
swap_number a b e (inr (inr (inl same))) = ap₂ join_of (sym same) same
swap_number a b e (inr (inr (inr number))) = e ∙ sym number

swap_by : (a b : Kind) → Joined a b → join_of a b ≡ join_of b a
swap_by a b (inl none) = subst (λ (k : Kind). join_of k b ≡ join_of b k) (sym none) (sym (join_empty b))
swap_by a b (inr (inl none)) = subst (λ (k : Kind). join_of a k ≡ join_of k a) (sym none) (join_empty a)
swap_by a b (inr (inr (inl same))) = ap₂ join_of same (sym same)
swap_by a b (inr (inr (inr number))) = swap_number a b number (joined b a)

pub join_swap : (a b : Kind) → join_of a b ≡ join_of b a
join_swap a b = swap_by a b (joined a b)

-- a second join with the same changes nothing
again_by : (a b : Kind) → Joined a b → join_of a (join_of a b) ≡ join_of a b
again_by a b (inl none) = subst (λ (k : Kind). join_of k (join_of k b) ≡ join_of k b) (sym none) refl
again_by a b (inr (inl none)) = subst (λ (k : Kind). join_of a (join_of a k) ≡ join_of a k) (sym none) (ap (join_of a) (join_empty a))
again_by a b (inr (inr (inl same))) = subst (λ (k : Kind). join_of a (join_of a k) ≡ join_of a k) same (ap (join_of a) (join_same a))
again_by a b (inr (inr (inr number))) = ap (join_of a) number ∙ number_right a b number ∙ sym number

three_number : (a b c : Kind) → join_of a b ≡ Number → Joined b c → join_of Number c ≡ join_of a (join_of b c)
three_number a b c e (inl none) = absurd (empty_number (sym (join_empty a) ∙ ap (join_of a) (sym none) ∙ e))
three_number a b c e (inr (inl none)) =
    subst (λ (k : Kind). join_of Number k ≡ join_of a (join_of b k)) (sym none) (sym (join_empty a) ∙ ap (join_of a) (sym (join_empty b)))
three_number a b c e (inr (inr (inl same))) =
    subst (λ (k : Kind). join_of Number k ≡ join_of a (join_of b k)) same (number_left a b e ∙ sym e ∙ ap (join_of a) (sym (join_same b)))
three_number a b c e (inr (inr (inr number))) = number_left b c number ∙ sym (number_right a b e) ∙ ap (join_of a) (sym number)

three_by : (a b c : Kind) → Joined a b → join_of (join_of a b) c ≡ join_of a (join_of b c)
three_by a b c (inl none) = subst (λ (k : Kind). join_of (join_of k b) c ≡ join_of k (join_of b c)) (sym none) refl
three_by a b c (inr (inl none)) =
    subst (λ (k : Kind). join_of (join_of a k) c ≡ join_of a (join_of k c)) (sym none) (ap (λ (k : Kind). join_of k c) (join_empty a) ∙ sym (join_empty a))
three_by a b c (inr (inr (inl same))) =
    subst (λ (k : Kind). join_of (join_of a k) c ≡ join_of a (join_of k c)) same (ap (λ (k : Kind). join_of k c) (join_same a) ∙ sym (again_by a c (joined a c)))
three_by a b c (inr (inr (inr number))) = ap (λ (k : Kind). join_of k c) number ∙ three_number a b c number (joined b c)

pub join_three : (a b c : Kind) → join_of (join_of a b) c ≡ join_of a (join_of b c)
join_three a b c = three_by a b c (joined a b)

-- ---- eleven registers

all_swap : (ks ls : List Kind) → join_all ks ls ≡ join_all ls ks
all_swap [] [] = refl
all_swap [] (l ∷ ls) = refl
all_swap (k ∷ ks) [] = refl
all_swap (k ∷ ks) (l ∷ ls) = ap₂ (λ (j : Kind) (js : List Kind). j ∷ js) (join_swap k l) (all_swap ks ls)

all_three : (ks ls ms : List Kind) → join_all (join_all ks ls) ms ≡ join_all ks (join_all ls ms)
all_three [] ls ms = refl
all_three (k ∷ ks) [] ms = refl
all_three (k ∷ ks) (l ∷ ls) [] = refl
all_three (k ∷ ks) (l ∷ ls) (m ∷ ms) = ap₂ (λ (j : Kind) (js : List Kind). j ∷ js) (join_three k l m) (all_three ks ls ms)

pub kinds_swap : (a b : Kinds) → join_kinds a b ≡ join_kinds b a
kinds_swap a b = ap (λ (ks : List Kind). record { registers = ks }) (all_swap a.registers b.registers)

pub kinds_three : (a b c : Kinds) → join_kinds (join_kinds a b) c ≡ join_kinds a (join_kinds b c)
kinds_three a b c = ap (λ (ks : List Kind). record { registers = ks }) (all_three a.registers b.registers c.registers)

-- ---- ways

pub merge_swap : (before : Option Kinds) (a b : Kinds) → merge (Some (merge before a)) b ≡ merge (Some (merge before b)) a
merge_swap None a b = kinds_swap a b
merge_swap (Some ks) a b = kinds_three ks a b ∙ ap (join_kinds ks) (kinds_swap a b) ∙ sym (kinds_three ks b a)

-- these kinds are merged, if the way leads here
abbrev merged : Bool → Kinds → Option Kinds → Option Kinds
merged here after before = cond here (Some (merge before after)) before

merged_swap : (t u : Bool) (a b : Kinds) (before : Option Kinds) → merged t a (merged u b before) ≡ merged u b (merged t a before)
merged_swap true true a b before = ap (λ (k : Kinds). Some k) (merge_swap before b a)
merged_swap true false a b before = refl
merged_swap false true a b before = refl
merged_swap false false a b before = refl

-- what is known at a slot doesn't depend on which of two ways is taken first
pub along_swap : (to to' : Option ℕ) (after after' : Option Kinds) (at : ℕ) (before : Option Kinds)
    → along to after at (along to' after' at before) ≡ along to' after' at (along to after at before)
along_swap None to' after after' at before = refl
along_swap (Some to) None after after' at before = refl
along_swap (Some to) (Some to') None after' at before = refl
along_swap (Some to) (Some to') (Some a) None at before = refl
along_swap (Some to) (Some to') (Some a) (Some b) at before = merged_swap (eqb at to) (eqb at to') a b before
