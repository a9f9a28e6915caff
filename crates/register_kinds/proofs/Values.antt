-- What operations give fits the kinds that they give.
use Rattle.std.proofs.Common.{◌≡◌, ℕ, ◌-◌, ◌<◌, ◌^◌, ◌%◌, true, false, ◌&&◌, cond, Some, None, refl, subst, sym, ap, ap₂, ◌∙◌, arith}
use Rattle.std.specs.Prelude.{ℤ, pos, negsuc, ◌+ℤ◌, ◌-ℤ◌}
use Rattle.std.specs.Int.{w64, cast_signed}
use Rattle.std.specs.Int.RustNames.{int_le}
use Rattle.bpf_encoding.specs.Reading.{is_64}
use Rattle.bpf_encoding.specs.declared.insn.Width.{Width}
use Rattle.bpf_encoding.specs.declared.insn.Width.TheVariants.{Bits32, Bits64}
use Rattle.bpf_encoding.specs.declared.insn.Operation.{Operation}
use Rattle.bpf_encoding.specs.declared.insn.Operation.TheVariants.{Add, Sub, Mov}
use Rattle.semantics.specs.Arithmetic.{extended, sum, difference}
use Rattle.semantics.specs.Step.{Setting}
use Rattle.semantics.specs.Instruction.{result_of}
use Rattle.semantics.proofs.Extended.{extended-cast_signed, extended_back, address_sum}
use Rattle.register_kinds.specs.declared.kind.Kind.{Kind}
use Rattle.register_kinds.specs.declared.kind.Kind.TheVariants.{Empty, Number, Const, Stack, Args, Buffer, MaybeBuffer}
use Rattle.register_kinds.specs.Computed.{near, or_number, moved_by, sum_kind, difference_kind, copied_kind, alu_kind}
use Rattle.register_kinds.specs.Fitting.{Fits}

some_is : (x y : ℕ) → Some x ≡ Some y → x ≡ y
some_is x y e = cc

-- an address that was moved, where the offset stays near
near_fits : (s : Setting) (region : ℤ → Kind) (from by : ℤ) (v : ℕ) → Fits s (region (from +ℤ by)) (Some v)
    → Fits s (or_number (near from by) region) (Some v)
near_fits s region from by v f =
    elim (int_le (negsuc 65535) (from +ℤ by) && int_le (from +ℤ by) (pos 65536)) as (λ t. Fits s (or_number (cond t (Some (from +ℤ by)) None) region) (Some v)) [
      | true ↦ f
      | false ↦ refl
    ]

moved_fits : (s : Setting) (k : Kind) (by : ℤ) (x d : ℕ) → Fits s k (Some x) → d ≡ extended by → Fits s (moved_by k by) (Some (sum w64 x d))
moved_fits s (Stack from) by x d f e = near_fits s Stack from by (sum w64 x d) (ap (λ (n : ℕ). Some n) (address_sum s.bases.stack x d from by (some_is x _ f) e))
moved_fits s (Args from) by x d f e = near_fits s Args from by (sum w64 x d) (ap (λ (n : ℕ). Some n) (address_sum s.bases.arguments x d from by (some_is x _ f) e))
moved_fits s (Buffer slot from) by x d f e = near_fits s (Buffer slot) from by (sum w64 x d) (ap (λ (n : ℕ). Some n) (address_sum _ x d from by (some_is x _ f.0) e), f.1)
moved_fits s k by x d f e = refl

sum_turned : (x y : ℕ) → sum w64 x y ≡ sum w64 y x
sum_turned x y = omega arith

by_constant : (s : Setting) (k : Kind) (x y b : ℕ) → Fits s k (Some x) → Fits s (Const b) (Some y)
    → Fits s (moved_by k (cast_signed w64 b)) (Some (sum w64 x y))
by_constant s k x y b fa fb = moved_fits s k (cast_signed w64 b) x y fa (some_is y b fb.0 ∙ sym (extended-cast_signed b fb.1))

constant_by : (s : Setting) (k : Kind) (x y a : ℕ) → Fits s (Const a) (Some x) → Fits s k (Some y)
    → Fits s (moved_by k (cast_signed w64 a)) (Some (sum w64 x y))
constant_by s k x y a fa fb = subst (λ (v : ℕ). Fits s (moved_by k (cast_signed w64 a)) (Some v)) (sum_turned y x) (by_constant s k y x a fb fa)

sum_fits : (s : Setting) (a b : Kind) (x y : ℕ) → Fits s a (Some x) → Fits s b (Some y) → Fits s (sum_kind a b) (Some (sum w64 x y))
sum_fits s (Const a) (Const b) x y fa fb = (ap₂ (λ (m n : ℕ). Some (sum w64 m n)) (some_is x a fa.0) (some_is y b fb.0), omega arith)
sum_fits s Empty (Const b) x y fa fb = by_constant s Empty x y b fa fb
sum_fits s Number (Const b) x y fa fb = by_constant s Number x y b fa fb
sum_fits s (Stack o) (Const b) x y fa fb = by_constant s (Stack o) x y b fa fb
sum_fits s (Args o) (Const b) x y fa fb = by_constant s (Args o) x y b fa fb
sum_fits s (Buffer k o) (Const b) x y fa fb = by_constant s (Buffer k o) x y b fa fb
sum_fits s (MaybeBuffer k) (Const b) x y fa fb = by_constant s (MaybeBuffer k) x y b fa fb
sum_fits s (Const a) Empty x y fa fb = constant_by s Empty x y a fa fb
sum_fits s (Const a) Number x y fa fb = constant_by s Number x y a fa fb
sum_fits s (Const a) (Stack o) x y fa fb = constant_by s (Stack o) x y a fa fb
sum_fits s (Const a) (Args o) x y fa fb = constant_by s (Args o) x y a fa fb
sum_fits s (Const a) (Buffer k o) x y fa fb = constant_by s (Buffer k o) x y a fa fb
sum_fits s (Const a) (MaybeBuffer k) x y fa fb = constant_by s (MaybeBuffer k) x y a fa fb
sum_fits s a b x y fa fb = refl

difference_is : (x y : ℕ) → y < 2 ^ 64 → sum w64 x ((2 ^ 64 - y) % 2 ^ 64) ≡ difference w64 x y
difference_is x y lt = omega arith

back_fits : (s : Setting) (k : Kind) (x y b : ℕ) → Fits s k (Some x) → Fits s (Const b) (Some y)
    → Fits s (moved_by k (pos 0 -ℤ cast_signed w64 b)) (Some (difference w64 x y))
back_fits s k x y b fa fb =
    let is : y ≡ b = some_is y b fb.0 in
    let d : (2 ^ 64 - y) % 2 ^ 64 ≡ extended (pos 0 -ℤ cast_signed w64 b) =
    ap (λ (n : ℕ). (2 ^ 64 - n) % 2 ^ 64) (is ∙ sym (extended-cast_signed b fb.1)) ∙ sym (extended_back (cast_signed w64 b)) in
    let small : y < 2 ^ 64 = (let lt = fb.1 in omega (arith, is, lt)) in
    subst (λ (v : ℕ). Fits s (moved_by k (pos 0 -ℤ cast_signed w64 b)) (Some v)) (difference_is x y small) (moved_fits s k (pos 0 -ℤ cast_signed w64 b) x ((2 ^ 64 - y) % 2 ^ 64) fa d)

difference_fits : (s : Setting) (a b : Kind) (x y : ℕ) → Fits s a (Some x) → Fits s b (Some y)
    → Fits s (difference_kind a b) (Some (difference w64 x y))
difference_fits s (Const a) (Const b) x y fa fb = (ap₂ (λ (m n : ℕ). Some (difference w64 m n)) (some_is x a fa.0) (some_is y b fb.0), omega arith)
difference_fits s Empty (Const b) x y fa fb = back_fits s Empty x y b fa fb
difference_fits s Number (Const b) x y fa fb = back_fits s Number x y b fa fb
difference_fits s (Stack o) (Const b) x y fa fb = back_fits s (Stack o) x y b fa fb
difference_fits s (Args o) (Const b) x y fa fb = back_fits s (Args o) x y b fa fb
difference_fits s (Buffer k o) (Const b) x y fa fb = back_fits s (Buffer k o) x y b fa fb
difference_fits s (MaybeBuffer k) (Const b) x y fa fb = back_fits s (MaybeBuffer k) x y b fa fb
difference_fits s a b x y fa fb = refl

copied_fits : (s : Setting) (w : Width) (k : Kind) (x y : ℕ) → Fits s k (Some y) → Fits s (copied_kind w k) (Some (result_of (is_64 w) Mov x y))
copied_fits s Bits64 k x y f = f
copied_fits s Bits32 (Const n) x y f = (ap (λ (m : ℕ). Some (m % 2 ^ 32)) (some_is y n f.0), omega arith)
copied_fits s Bits32 k x y f = refl

-- what is known of the first operand; a move reads none
abbrev pub LeftFits : Setting → Operation → Kind → ℕ → Type 0
LeftFits s Mov k x = Unit {0}
LeftFits s operation k x = Fits s k (Some x)

pub alu_fits : (s : Setting) (w : Width) (operation : Operation) (a b : Kind) (x y : ℕ) → LeftFits s operation a x
    → Fits s b (Some y) → Fits s (alu_kind w operation a b) (Some (result_of (is_64 w) operation x y))
alu_fits s w Mov a b x y fa fb = copied_fits s w b x y fb
alu_fits s Bits64 Add a b x y fa fb = sum_fits s a b x y fa fb
alu_fits s Bits64 Sub a b x y fa fb = difference_fits s a b x y fa fb
alu_fits s Bits32 Add a b x y fa fb = refl
alu_fits s Bits32 Sub a b x y fa fb = refl
alu_fits s w operation a b x y fa fb = refl
