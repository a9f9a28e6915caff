-- An access that the kind of its base allows lies within a region.
use Rattle.std.proofs.Common.{◌≡◌, ℕ, ◌+◌, ◌*◌, ◌<◌, ◌≤◌, ◌^◌, Bool, true, false, cond, Some, None, List, length, leb, refl, ap, ◌∙◌, arith}
use Rattle.std.specs.Prelude.{ℤ, pos, negsuc, ◌+ℤ◌}
use Rattle.std.proofs.lemmas.Bool.Decides.{nat_tests}
use Rattle.semantics.specs.Memory.{Memory, bytes_at, written}
use Rattle.semantics.specs.Step.{Setting, address, buffer_base}
use Rattle.semantics.proofs.Extended.{address_at}
use Rattle.access_slots.specs.Declaration.{Declaration}
use Rattle.register_kinds.specs.declared.kind.Kind.{Kind}
use Rattle.register_kinds.specs.declared.kind.Kind.TheVariants.{Empty, Number, Const, Stack, Args, Buffer, MaybeBuffer}
use Rattle.register_kinds.specs.declared.kind.Violation.TheVariants.{OutOfBounds}
use Rattle.register_kinds.specs.Access.{is_within, bounds, access}
use Rattle.register_kinds.specs.Fitting.{Fits, shapes, shapes_of, IsSetting}
use Rattle.register_kinds.proofs.Memory.{both, HasBytes, IsWritten, readable, laid_of, stack_at, arguments_at}
use Rattle.register_kinds.proofs.Memory.{buffer_at, stack_written, buffer_written}

-- an offset within a region of this length
abbrev Within : ℕ → ℤ → ℕ → Type 0
Within length at n = (m : ℕ) × (at ≡ pos m) × (m + n ≤ length)

within_is : (size : ℕ) (at : ℤ) (n : ℕ) → is_within size at n ≡ true → Within size at n
within_is size (pos m) n e = let le : m + n ≤ size = (let t = (both (leb 0 m) (leb (m + n) size) e).1 in grind (arith, nat_tests)) in (m, refl, le)
within_is size (negsuc m) n e = absurd cc

in_bounds : (size : ℕ) (at : ℤ) (n : ℕ) → bounds size at n ≡ None → Within size at n
in_bounds size at n e = within_is size at n (holds (is_within size at n) e)
  where
    holds : (t : Bool) → cond t None (Some OutOfBounds) ≡ None → t ≡ true
    holds true h = refl
    holds false h = absurd cc

some_is : (x y : ℕ) → Some x ≡ Some y → x ≡ y
some_is x y e = cc

-- the address of an access within a region below 2 ^ 47
lies_at : (base size v n : ℕ) (from offset : ℤ) → base + size ≤ 2 ^ 47 → v ≡ address base from
    → (w : Within size (from +ℤ offset) n) → address v offset ≡ base + w.0
lies_at base size v n from offset reach e w =
    ap (λ (x : ℕ). address x offset) e ∙ address_at base w.0 from offset (let le = w.2 in omega (arith, reach, le)) w.1

-- where a store is allowed, a load is
pub load_allowed : (decl : Declaration) (k : Kind) (offset : ℤ) (n : ℕ) → access decl true k offset n ≡ None → access decl false k offset n ≡ None
load_allowed decl Empty offset n e = e
load_allowed decl (Args from) offset n e = absurd cc
load_allowed decl k offset n e = e

module _ (s : Setting) (is : IsSetting s) (m : Memory) (laid : shapes m ≡ shapes_of s) where
  pub loadable : (k : Kind) (offset : ℤ) (n v : ℕ) → Fits s k (Some v) → access s.program.decl false k offset n ≡ None
      → HasBytes (bytes_at m (address v offset) n)
  loadable Empty offset n v f e = absurd cc
  loadable Number offset n v f e = absurd cc
  loadable (Const c) offset n v f e = absurd cc
  loadable (MaybeBuffer slot) offset n v f e = absurd cc
  loadable (Stack from) offset n v f e =
      let w = in_bounds 512 (from +ℤ offset) n e in
      let at = lies_at s.bases.stack 512 v n from offset (laid_of s is).stack (some_is v _ f) w in
      let le = w.2 in
      readable m 0 _ (address v offset) n (stack_at s m laid) (omega (arith, at)) (omega (arith, at, le))
  loadable (Args from) offset n v f e =
      let w = in_bounds (8 * s.program.decl.args) (from +ℤ offset) n e in
      let reach : s.bases.arguments + 8 * s.program.decl.args ≤ 2 ^ 47 = (let l = (laid_of s is).arguments in omega (arith, l, is.few_args)) in
      let at = lies_at s.bases.arguments (8 * s.program.decl.args) v n from offset reach (some_is v _ f) w in
      let le = w.2 in
      readable m 1 _ (address v offset) n (arguments_at s m laid) (omega (arith, at)) (omega (arith, at, le, is.count))
  loadable (Buffer slot from) offset n v f e =
      let w = in_bounds 64 (from +ℤ offset) n e in
      let at = lies_at (buffer_base s slot) 64 v n from offset ((laid_of s is).buffer slot f.1).reach (some_is v _ f.0) w in
      let le = w.2 in
      readable m (slot + 2) _ (address v offset) n (buffer_at s m slot is laid f.1) (omega (arith, at)) (omega (arith, at, le))

  pub storable : (k : Kind) (offset : ℤ) (new : List ℕ) (v : ℕ) → 0 < length new → Fits s k (Some v)
      → access s.program.decl true k offset (length new) ≡ None → IsWritten m (written m (address v offset) new)
  storable Empty offset new v some f e = absurd cc
  storable Number offset new v some f e = absurd cc
  storable (Const c) offset new v some f e = absurd cc
  storable (MaybeBuffer slot) offset new v some f e = absurd cc
  storable (Args from) offset new v some f e = absurd cc
  storable (Stack from) offset new v some f e =
      let w = in_bounds 512 (from +ℤ offset) (length new) e in
      let at = lies_at s.bases.stack 512 v (length new) from offset (laid_of s is).stack (some_is v _ f) w in
      let le = w.2 in
      stack_written s m (address v offset) new laid (omega (arith, at)) (omega (arith, at, le))
  storable (Buffer slot from) offset new v some f e =
      let w = in_bounds 64 (from +ℤ offset) (length new) e in
      let at = lies_at (buffer_base s slot) 64 v (length new) from offset ((laid_of s is).buffer slot f.1).reach (some_is v _ f.0) w in
      let le = w.2 in
      buffer_written s m slot (address v offset) new is laid f.1 some (omega (arith, at)) (omega (arith, at, le))
