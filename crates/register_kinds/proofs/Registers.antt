-- Registers that fit their kinds.
use Rattle.std.proofs.Common.{◌≡◌, ◌≢◌, ℕ, ◌<◌, true, Option, Some, None, List, length, refl, subst, sym, inl, inr, arith}
use Rattle.std.specs.Prelude.{slice_set}
use Rattle.std.specs.List.{slice_index_or}
use Rattle.std.proofs.lemmas.Bool.{cases_eq, cases_lt}
use Rattle.std.proofs.lemmas.List.{length-set, get_or-set_same, get_or-set_other, get_or_past}
use Rattle.bpf_encoding.specs.Spelling.{number_of}
use Rattle.bpf_encoding.specs.declared.insn.Register.{Register}
use Rattle.bpf_encoding.specs.declared.insn.Register.TheVariants.{R0}
use Rattle.bpf_encoding.specs.declared.insn.Source.{Source}
use Rattle.bpf_encoding.specs.declared.insn.Source.TheVariants.{Imm, Reg}
use Rattle.bpf_encoding.specs.declared.insn.Operation.{Operation}
use Rattle.bpf_encoding.specs.declared.insn.Operation.TheVariants.{Mov}
use Rattle.semantics.specs.Step.{Config, Setting, register}
use Rattle.semantics.specs.Instruction.{value_of, left_of}
use Rattle.semantics.proofs.Extended.{extended_below}
use Rattle.register_kinds.specs.declared.kind.Kind.{Kind}
use Rattle.register_kinds.specs.declared.kind.Kind.TheVariants.{Empty, Number, Const, Stack, Args, Buffer, MaybeBuffer}
use Rattle.register_kinds.specs.declared.kinds.Kinds.{Kinds}
use Rattle.register_kinds.specs.Kinds.{kind_at, with_kind, is_present}
use Rattle.register_kinds.specs.Computed.{source_kind}
use Rattle.register_kinds.specs.Transfer.{is_left_present}
use Rattle.register_kinds.specs.Fitting.{Fits, AllFit}
use Rattle.register_kinds.proofs.Values.{LeftFits}

abbrev pub HasNumber : Option ℕ → Type 0
HasNumber v = (n : ℕ) × (v ≡ Some n)

present_is : (s : Setting) (k : Kind) (v : Option ℕ) → is_present k ≡ true → Fits s k v → HasNumber v
present_is s Empty v p f = absurd cc
present_is s Number None p f = absurd cc
present_is s Number (Some n) p f = (n, refl)
present_is s (Const n) v p f = (n, f.0)
present_is s (Stack o) v p f = (_, f)
present_is s (Args o) v p f = (_, f)
present_is s (Buffer k o) v p f = (_, f.0)
present_is s (MaybeBuffer k) v p f = elim f.0 [ inl e ↦ (_, e) | inr e ↦ (_, e) ]

pub below : (r : Register) → number_of r < 11
below R0 = omega arith
below r = omega arith

module _ (s : Setting) (ks : Kinds) (c : Config) (all : AllFit s ks c.registers) where
  pub has_register : (r : ℕ) → is_present (kind_at ks r) ≡ true → HasNumber (register c r)
  has_register r p = present_is s (kind_at ks r) (register c r) p (all.at r)

  pub source_fits : (source : Source) → Fits s (source_kind ks source) (value_of c source)
  source_fits (Imm n) = (refl, extended_below n)
  source_fits (Reg r) = all.at (number_of r)

  pub has_source : (source : Source) → is_present (source_kind ks source) ≡ true → HasNumber (value_of c source)
  has_source source p = present_is s (source_kind ks source) (value_of c source) p (source_fits source)

  abbrev pub HasLeft : Operation → Register → Type 0
  HasLeft operation dst = (a : ℕ) × (left_of c operation dst ≡ Some a) × LeftFits s operation (kind_at ks (number_of dst)) a

  -- the first operand of any operation but a move
  read_left : (dst : Register) → is_present (kind_at ks (number_of dst)) ≡ true
      → (a : ℕ) × (register c (number_of dst) ≡ Some a) × Fits s (kind_at ks (number_of dst)) (Some a)
  read_left dst p =
      let h = has_register (number_of dst) p in
      (h.0, h.1, subst (Fits s (kind_at ks (number_of dst))) h.1 (all.at (number_of dst)))

  pub has_left : (operation : Operation) (dst : Register) → is_left_present ks operation dst ≡ true → HasLeft operation dst
  has_left Mov dst p = (0, refl, tt)
  has_left operation dst p = read_left dst p

-- ---- a register is written

-- a kind for a register that has such a value
pub narrowed : (s : Setting) (ks : Kinds) (registers : List (Option ℕ)) (r : ℕ) (k : Kind) → AllFit s ks registers
    → Fits s k (slice_index_or registers r None) → AllFit s (with_kind ks r k) registers
narrowed s ks registers r k all f = record { at = λ q. elim (cases_eq q r) [ inl same ↦ here q same | inr ne ↦ there q ne ] }
  where
    there : (q : ℕ) → q ≢ r → Fits s (kind_at (with_kind ks r k) q) (slice_index_or registers q None)
    there q ne = subst (λ (x : Kind). Fits s x (slice_index_or registers q None)) (sym (get_or-set_other ks.registers r q k Empty ne)) (all.at q)

    here : (q : ℕ) → q ≡ r → Fits s (kind_at (with_kind ks r k) q) (slice_index_or registers q None)
    here q same =
        elim (cases_lt r (length ks.registers)) [
          | inl lt ↦ subst (λ (n : ℕ). Fits s (kind_at (with_kind ks r k) n) (slice_index_or registers n None)) (sym same)
              (subst (λ (x : Kind). Fits s x (slice_index_or registers r None)) (sym (get_or-set_same ks.registers r k Empty lt)) f)
          | inr le ↦ subst (λ (x : Kind). Fits s x (slice_index_or registers q None)) (sym (get_or_past (slice_set
              ks.registers r k) q Empty (omega (arith, length-set ks.registers r k, le, same)))) tt
        ]

pub put_fits : (s : Setting) (ks : Kinds) (registers : List (Option ℕ)) (r : ℕ) (k : Kind) (v : Option ℕ)
    → r < length registers → AllFit s ks registers → Fits s k v
    → AllFit s (with_kind ks r k) (slice_set registers r v)
put_fits s ks registers r k v lt all f = record { at = λ q. elim (cases_eq q r) [ inl same ↦ here q same | inr ne ↦ there q ne ] }
  where
    there : (q : ℕ) → q ≢ r → Fits s (kind_at (with_kind ks r k) q) (slice_index_or (slice_set registers r v) q None)
    there q ne =
        subst (λ (x : Kind). Fits s x (slice_index_or (slice_set registers r v) q None)) (sym (get_or-set_other ks.registers r q k Empty ne))
        (subst (λ (o : Option ℕ). Fits s (kind_at ks q) o) (sym (get_or-set_other registers r q v None ne)) (all.at q))

    here : (q : ℕ) → q ≡ r → Fits s (kind_at (with_kind ks r k) q) (slice_index_or (slice_set registers r v) q None)
    here q same =
        subst (λ (n : ℕ). Fits s (kind_at (with_kind ks r k) n) (slice_index_or (slice_set registers r v) n None)) (sym same)
        (subst (λ (o : Option ℕ). Fits s (kind_at (with_kind ks r k) r) o) (sym (get_or-set_same registers r v None lt))
        (elim (cases_lt r (length ks.registers)) [
          | inl inside ↦ subst (λ (x : Kind). Fits s x v) (sym (get_or-set_same ks.registers r k Empty inside)) f
          | inr le ↦ subst (λ (x : Kind). Fits s x v) (sym (get_or_past (slice_set ks.registers r k) r Empty (omega (arith, length-set ks.registers r k, le)))) tt
        ]))
