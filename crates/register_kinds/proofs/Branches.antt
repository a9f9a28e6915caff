-- Both ways of a condition; a buffer's address that may be 0 is told apart by the test.
use Rattle.std.proofs.Common.{◌≡◌, ℕ, Bool, true, false, not, Option, Some, None, eqb, cond, refl, subst, sym, ap, ◌∙◌, inl, inr, arith}
use Rattle.std.specs.Prelude.{ℤ, pos}
use Rattle.std.specs.Ordering.{int_eq}
use Rattle.std.proofs.lemmas.Bool.{eqb-true}
use Rattle.std.proofs.lemmas.Bool.Decides.{Decides-int_eq}
use Rattle.bpf_encoding.specs.Reading.{is_64}
use Rattle.bpf_encoding.specs.declared.insn.Width.{Width}
use Rattle.bpf_encoding.specs.declared.insn.Width.TheVariants.{Bits64}
use Rattle.bpf_encoding.specs.declared.insn.Condition.{Condition}
use Rattle.bpf_encoding.specs.declared.insn.Condition.TheVariants.{Equal, NotEqual}
use Rattle.bpf_encoding.specs.declared.insn.Source.{Source}
use Rattle.bpf_encoding.specs.declared.insn.Source.TheVariants.{Imm}
use Rattle.semantics.specs.Arithmetic.{extended}
use Rattle.semantics.specs.Step.{Config, Setting, register, buffer_base}
use Rattle.semantics.specs.Instruction.{value_of, is_taken}
use Rattle.semantics.proofs.Extended.{address_zero}
use Rattle.register_kinds.specs.declared.kind.Kind.{Kind}
use Rattle.register_kinds.specs.declared.kind.Kind.TheVariants.{Empty, Number, Const, Stack, Args, Buffer, MaybeBuffer}
use Rattle.register_kinds.specs.declared.kinds.Kinds.{Kinds}
use Rattle.register_kinds.specs.declared.kinds.Ways.{Ways}
use Rattle.register_kinds.specs.Kinds.{kind_at, with_kind}
use Rattle.register_kinds.specs.Transfer.{null_if_zero, null_test, branch_ways}
use Rattle.register_kinds.specs.Fitting.{Fits, AllFit, IsSetting}
use Rattle.register_kinds.proofs.Memory.{laid_of}
use Rattle.register_kinds.proofs.Registers.{narrowed}

abbrev pub way_of : Ways → Bool → Option Kinds
way_of ways true = ways.jump
way_of ways false = ways.next

-- the registers fit the kinds of the way that is taken
abbrev pub FitsWay : Setting → Ways → Bool → Config → Type 0
FitsWay s ways t c = (ks : Kinds) × (way_of ways t ≡ Some ks) × AllFit s ks c.registers

some_is : (x y : ℕ) → Some x ≡ Some y → x ≡ y
some_is x y e = cc

module _ (s : Setting) (is : IsSetting s) (ks : Kinds) (c : Config) (all : AllFit s ks c.registers) (r a : ℕ) (has : register c r ≡ Some a) where
  -- no test: both ways keep the kinds
  plain : (kind : Kind) (t : Bool) → FitsWay s (branch_ways None kind r ks) t c
  plain kind true = (ks, refl, all)
  plain kind false = (ks, refl, all)

  zero_fits : a ≡ 0 → AllFit s (with_kind ks r (Const 0)) c.registers
  zero_fits e = narrowed s ks c.registers r (Const 0) all (has ∙ ap (λ (n : ℕ). Some n) e, omega arith)

  buffer_fits : (slot : ℕ) → Fits s (MaybeBuffer slot) (register c r) → (a ≡ 0 → ⊥) → AllFit s (with_kind ks r (Buffer slot (pos 0))) c.registers
  buffer_fits slot f ne =
      let reach = ((laid_of s is).buffer slot f.1).reach in
      let at = address_zero (buffer_base s slot) (omega (arith, reach)) in
      elim f.0 [
        | inl null ↦ absurd (ne (some_is a 0 (sym has ∙ null)))
        | inr base ↦ narrowed s ks c.registers r (Buffer slot (pos 0)) all (base ∙ ap (λ (n : ℕ). Some n) (sym at), f.1)
      ]

  not_zero : eqb a 0 ≡ false → a ≡ 0 → ⊥
  not_zero f e = let t : eqb 0 0 ≡ false = ap (λ (n : ℕ). eqb n 0) (sym e) ∙ f in absurd cc

  -- jumps where it is 0
  equal_way : (kind : Kind) (t : Bool) → Fits s kind (register c r) → eqb a 0 ≡ t → FitsWay s (branch_ways (Some true) kind r ks) t c
  equal_way (MaybeBuffer slot) true f e = (_, refl, zero_fits (eqb-true a 0 e))
  equal_way (MaybeBuffer slot) false f e = (_, refl, buffer_fits slot f (not_zero e))
  equal_way Empty t f e = plain Empty t
  equal_way Number t f e = plain Number t
  equal_way (Const n) t f e = plain (Const n) t
  equal_way (Stack o) t f e = plain (Stack o) t
  equal_way (Args o) t f e = plain (Args o) t
  equal_way (Buffer k o) t f e = plain (Buffer k o) t

  -- jumps where it isn't
  unequal_way : (kind : Kind) (t : Bool) → Fits s kind (register c r) → eqb a 0 ≡ t → FitsWay s (branch_ways (Some false) kind r ks) (not t) c
  unequal_way (MaybeBuffer slot) true f e = (_, refl, zero_fits (eqb-true a 0 e))
  unequal_way (MaybeBuffer slot) false f e = (_, refl, buffer_fits slot f (not_zero e))
  unequal_way Empty t f e = plain Empty (not t)
  unequal_way Number t f e = plain Number (not t)
  unequal_way (Const n) t f e = plain (Const n) (not t)
  unequal_way (Stack o) t f e = plain (Stack o) (not t)
  unequal_way (Args o) t f e = plain (Args o) (not t)
  unequal_way (Buffer k o) t f e = plain (Buffer k o) (not t)

  zero_imm : (n : ℤ) → int_eq n (pos 0) ≡ true → extended n ≡ 0
  zero_imm n e = ap extended ((Decides-int_eq n (pos 0)).0 e)

  equal_by : (n : ℤ) (z : Bool) → int_eq n (pos 0) ≡ z → FitsWay s (branch_ways (cond z (Some true) None) (kind_at ks r) r ks) (eqb a (extended n)) c
  equal_by n true e = subst (λ (b : ℕ). FitsWay s (branch_ways (Some true) (kind_at ks r) r ks) (eqb a b) c) (sym (zero_imm n e)) (equal_way (kind_at ks r) (eqb a 0) (all.at r) refl)
  equal_by n false e = plain (kind_at ks r) (eqb a (extended n))

  unequal_by : (n : ℤ) (z : Bool) → int_eq n (pos 0) ≡ z
      → FitsWay s (branch_ways (cond z (Some false) None) (kind_at ks r) r ks) (not (eqb a (extended n))) c
  unequal_by n true e = subst (λ (b : ℕ). FitsWay s (branch_ways (Some false) (kind_at ks r) r ks) (not (eqb a b)) c) (sym (zero_imm n e)) (unequal_way (kind_at ks r) (eqb a 0) (all.at r) refl)
  unequal_by n false e = plain (kind_at ks r) (not (eqb a (extended n)))

  pub branch_fits : (width : Width) (condition : Condition) (source : Source) (b : ℕ) → value_of c source ≡ Some b
      → FitsWay s (branch_ways (null_test width condition source) (kind_at ks r) r ks) (is_taken (is_64 width) condition a b) c
  branch_fits Bits64 Equal (Imm n) b e = subst (λ (x : ℕ). FitsWay s (branch_ways (null_if_zero n true) (kind_at ks r) r
      ks) (eqb a x) c) (some_is (extended n) b e) (equal_by n (int_eq n (pos 0)) refl)
  branch_fits Bits64 NotEqual (Imm n) b e = subst (λ (x : ℕ). FitsWay s (branch_ways (null_if_zero n false) (kind_at ks
      r) r ks) (not (eqb a x)) c) (some_is (extended n) b e) (unequal_by n (int_eq n (pos 0)) refl)
  branch_fits width condition source b e = plain (kind_at ks r) _
