-- Reading what is spelled gives the instruction back.
use Rattle.std.proofs.Common.{◌≡◌, false, refl}
use Rattle.std.specs.Prelude.{ℤ}
use Rattle.bpf_encoding.specs.Spelling.{number_of, fields_of, is_wide}
use Rattle.bpf_encoding.specs.Named.{register_named, insn_named}
use Rattle.bpf_encoding.specs.declared.insn.Width.{Width}
use Rattle.bpf_encoding.specs.declared.insn.Width.TheVariants.{Bits32, Bits64}
use Rattle.bpf_encoding.specs.declared.insn.Operation.{Operation}
use Rattle.bpf_encoding.specs.declared.insn.Operation.TheVariants.{Add}
use Rattle.bpf_encoding.specs.declared.insn.Condition.{Condition}
use Rattle.bpf_encoding.specs.declared.insn.Condition.TheVariants.{Equal}
use Rattle.bpf_encoding.specs.declared.insn.Extension.{Extension}
use Rattle.bpf_encoding.specs.declared.insn.Extension.TheVariants.{Byte64}
use Rattle.bpf_encoding.specs.declared.insn.ByteOrder.{ByteOrder}
use Rattle.bpf_encoding.specs.declared.insn.ByteOrder.TheVariants.{Little}
use Rattle.bpf_encoding.specs.declared.insn.OrderWidth.{OrderWidth}
use Rattle.bpf_encoding.specs.declared.insn.OrderWidth.TheVariants.{Order16}
use Rattle.bpf_encoding.specs.declared.insn.Size.{Size}
use Rattle.bpf_encoding.specs.declared.insn.Size.TheVariants.{Word}
use Rattle.bpf_encoding.specs.declared.insn.SignedSize.{SignedSize}
use Rattle.bpf_encoding.specs.declared.insn.SignedSize.TheVariants.{SignedWord}
use Rattle.bpf_encoding.specs.declared.insn.AtomicOperation.{AtomicOperation}
use Rattle.bpf_encoding.specs.declared.insn.AtomicOperation.TheVariants as atomic
use Rattle.bpf_encoding.specs.declared.insn.Source.TheVariants.{Imm, Reg}
use Rattle.bpf_encoding.specs.declared.insn.Register.{Register}
use Rattle.bpf_encoding.specs.declared.insn.Register.TheVariants.{R0}
use Rattle.bpf_encoding.specs.declared.insn.Insn.{Insn}
use Rattle.bpf_encoding.specs.declared.insn.Insn.TheVariants.{Alu, Negate, MoveSigned, Order, LoadWide, Jump}
use Rattle.bpf_encoding.specs.declared.insn.Insn.TheVariants.{JumpLong, JumpIf, Load, LoadSigned, StoreImm, Store}
use Rattle.bpf_encoding.specs.declared.insn.Insn.TheVariants.{Atomic, Call, Exit}

pub register_named-number_of : (r : Register) → register_named (number_of r) ≡ r
register_named-number_of R0 = refl
register_named-number_of r = refl

-- each form by itself: a last case stands for all constructors that are left

alu_imm : (w : Width) (op : Operation) (dst : Register) (n : ℤ) → insn_named (fields_of (Alu w op dst (Imm n))) ≡ (Alu w op dst (Imm n))
alu_imm Bits32 Add dst n = simp (register_named-number_of dst)
alu_imm Bits64 Add dst n = simp (register_named-number_of dst)
alu_imm w op dst n = simp (register_named-number_of dst)

alu_reg : (w : Width) (op : Operation) (dst src : Register) → insn_named (fields_of (Alu w op dst (Reg src))) ≡ (Alu w op dst (Reg src))
alu_reg Bits32 Add dst src = simp (register_named-number_of dst, register_named-number_of src)
alu_reg Bits64 Add dst src = simp (register_named-number_of dst, register_named-number_of src)
alu_reg w op dst src = simp (register_named-number_of dst, register_named-number_of src)

jump_imm : (w : Width) (condition : Condition) (dst : Register) (n offset : ℤ)
    → insn_named (fields_of (JumpIf w condition dst (Imm n) offset)) ≡ (JumpIf w condition dst (Imm n) offset)
jump_imm Bits32 Equal dst n offset = simp (register_named-number_of dst)
jump_imm Bits64 Equal dst n offset = simp (register_named-number_of dst)
jump_imm w condition dst n offset = simp (register_named-number_of dst)

jump_reg : (w : Width) (condition : Condition) (dst src : Register) (offset : ℤ)
    → insn_named (fields_of (JumpIf w condition dst (Reg src) offset)) ≡ (JumpIf w condition dst (Reg src) offset)
jump_reg Bits32 Equal dst src offset = simp (register_named-number_of dst, register_named-number_of src)
jump_reg Bits64 Equal dst src offset = simp (register_named-number_of dst, register_named-number_of src)
jump_reg w condition dst src offset = simp (register_named-number_of dst, register_named-number_of src)

negate : (w : Width) (dst : Register) → insn_named (fields_of (Negate w dst)) ≡ (Negate w dst)
negate Bits32 dst = simp (register_named-number_of dst)
negate Bits64 dst = simp (register_named-number_of dst)

move_signed : (e : Extension) (dst src : Register) → insn_named (fields_of (MoveSigned e dst src)) ≡ (MoveSigned e dst src)
move_signed Byte64 dst src = simp (register_named-number_of dst, register_named-number_of src)
move_signed e dst src = simp (register_named-number_of dst, register_named-number_of src)

order : (kind : ByteOrder) (w : OrderWidth) (dst : Register) → insn_named (fields_of (Order kind w dst)) ≡ (Order kind w dst)
order Little Order16 dst = simp (register_named-number_of dst)
order Little w dst = simp (register_named-number_of dst)
order kind Order16 dst = simp (register_named-number_of dst)
order kind w dst = simp (register_named-number_of dst)

load : (size : Size) (dst base : Register) (offset : ℤ) → insn_named (fields_of (Load size dst base offset)) ≡ (Load size dst base offset)
load Word dst base offset = simp (register_named-number_of dst, register_named-number_of base)
load size dst base offset = simp (register_named-number_of dst, register_named-number_of base)

load_signed : (size : SignedSize) (dst base : Register) (offset : ℤ)
    → insn_named (fields_of (LoadSigned size dst base offset)) ≡ (LoadSigned size dst base offset)
load_signed SignedWord dst base offset = simp (register_named-number_of dst, register_named-number_of base)
load_signed size dst base offset = simp (register_named-number_of dst, register_named-number_of base)

store_imm : (size : Size) (base : Register) (offset imm : ℤ)
    → insn_named (fields_of (StoreImm size base offset imm)) ≡ (StoreImm size base offset imm)
store_imm Word base offset imm = simp (register_named-number_of base)
store_imm size base offset imm = simp (register_named-number_of base)

store : (size : Size) (base src : Register) (offset : ℤ) → insn_named (fields_of (Store size base src offset)) ≡ (Store size base src offset)
store Word base src offset = simp (register_named-number_of base, register_named-number_of src)
store size base src offset = simp (register_named-number_of base, register_named-number_of src)

atomic_insn : (w : Width) (op : AtomicOperation) (base src : Register) (offset : ℤ)
    → insn_named (fields_of (Atomic w op base src offset)) ≡ (Atomic w op base src offset)
atomic_insn Bits32 atomic.Add base src offset = simp (register_named-number_of base, register_named-number_of src)
atomic_insn Bits64 atomic.Add base src offset = simp (register_named-number_of base, register_named-number_of src)
atomic_insn w op base src offset = simp (register_named-number_of base, register_named-number_of src)

pub insn_named-fields_of : (i : Insn) → is_wide i ≡ false → insn_named (fields_of i) ≡ i
insn_named-fields_of (Alu w op dst (Imm n)) narrow = alu_imm w op dst n
insn_named-fields_of (Alu w op dst (Reg src)) narrow = alu_reg w op dst src
insn_named-fields_of (Negate w dst) narrow = negate w dst
insn_named-fields_of (MoveSigned e dst src) narrow = move_signed e dst src
insn_named-fields_of (Order kind w dst) narrow = order kind w dst
insn_named-fields_of (LoadWide dst value) narrow = absurd cc
insn_named-fields_of (Jump offset) narrow = refl
insn_named-fields_of (JumpLong offset) narrow = refl
insn_named-fields_of (JumpIf w condition dst (Imm n) offset) narrow = jump_imm w condition dst n offset
insn_named-fields_of (JumpIf w condition dst (Reg src) offset) narrow = jump_reg w condition dst src offset
insn_named-fields_of (Load size dst base offset) narrow = load size dst base offset
insn_named-fields_of (LoadSigned size dst base offset) narrow = load_signed size dst base offset
insn_named-fields_of (StoreImm size base offset imm) narrow = store_imm size base offset imm
insn_named-fields_of (Store size base src offset) narrow = store size base src offset
insn_named-fields_of (Atomic w op base src offset) narrow = atomic_insn w op base src offset
insn_named-fields_of (Call helper) narrow = refl
insn_named-fields_of Exit narrow = refl
