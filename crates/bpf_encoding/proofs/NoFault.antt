-- What is spelled has no fault.
use Rattle.std.proofs.Common.{◌≡◌, true, false, refl}
use Rattle.std.specs.Prelude.{ℤ, nat_le, None}
use Rattle.bpf_encoding.specs.Spelling.{number_of, fields_of, is_wide}
use Rattle.bpf_encoding.specs.Faults.{fault_of}
use Rattle.bpf_encoding.specs.Spells.{is_wide_opcode}
use Rattle.bpf_encoding.specs.declared.insn.Width.{Width}
use Rattle.bpf_encoding.specs.declared.insn.Width.TheVariants.{Bits32, Bits64}
use Rattle.bpf_encoding.specs.declared.insn.Operation.{Operation}
use Rattle.bpf_encoding.specs.declared.insn.Operation.TheVariants.{Add}
use Rattle.bpf_encoding.specs.declared.insn.Condition.{Condition}
use Rattle.bpf_encoding.specs.declared.insn.Condition.TheVariants.{Equal}
use Rattle.bpf_encoding.specs.declared.insn.Extension.{Extension}
use Rattle.bpf_encoding.specs.declared.insn.Extension.TheVariants.{Byte64}
use Rattle.bpf_encoding.specs.declared.insn.ByteOrder.{ByteOrder}
use Rattle.bpf_encoding.specs.declared.insn.ByteOrder.TheVariants.{Little}
use Rattle.bpf_encoding.specs.declared.insn.OrderWidth.{OrderWidth}
use Rattle.bpf_encoding.specs.declared.insn.OrderWidth.TheVariants.{Order16}
use Rattle.bpf_encoding.specs.declared.insn.Size.{Size}
use Rattle.bpf_encoding.specs.declared.insn.Size.TheVariants.{Word}
use Rattle.bpf_encoding.specs.declared.insn.SignedSize.{SignedSize}
use Rattle.bpf_encoding.specs.declared.insn.SignedSize.TheVariants.{SignedWord}
use Rattle.bpf_encoding.specs.declared.insn.AtomicOperation.{AtomicOperation}
use Rattle.bpf_encoding.specs.declared.insn.AtomicOperation.TheVariants as atomic
use Rattle.bpf_encoding.specs.declared.insn.Source.{Source}
use Rattle.bpf_encoding.specs.declared.insn.Source.TheVariants.{Imm, Reg}
use Rattle.bpf_encoding.specs.declared.insn.Register.{Register}
use Rattle.bpf_encoding.specs.declared.insn.Register.TheVariants.{R0}
use Rattle.bpf_encoding.specs.declared.insn.Insn.{Insn}
use Rattle.bpf_encoding.specs.declared.insn.Insn.TheVariants.{Alu, Negate, MoveSigned, Order, LoadWide, Jump}
use Rattle.bpf_encoding.specs.declared.insn.Insn.TheVariants.{JumpLong, JumpIf, Load, LoadSigned, StoreImm, Store}
use Rattle.bpf_encoding.specs.declared.insn.Insn.TheVariants.{Atomic, Call, Exit}

named : (r : Register) → nat_le (number_of r) 10 ≡ true
named R0 = refl
named r = refl

-- each form by itself: a last case stands for all constructors that are left

alu_imm : (w : Width) (op : Operation) (dst : Register) (n : ℤ) → fault_of (fields_of (Alu w op dst (Imm n))) ≡ None
alu_imm Bits32 Add dst n = simp (named dst)
alu_imm Bits64 Add dst n = simp (named dst)
alu_imm w op dst n = simp (named dst)

alu_reg : (w : Width) (op : Operation) (dst src : Register) → fault_of (fields_of (Alu w op dst (Reg src))) ≡ None
alu_reg Bits32 Add dst src = simp (named dst, named src)
alu_reg Bits64 Add dst src = simp (named dst, named src)
alu_reg w op dst src = simp (named dst, named src)

jump_imm : (w : Width) (condition : Condition) (dst : Register) (n offset : ℤ) → fault_of (fields_of (JumpIf w condition dst (Imm n) offset)) ≡ None
jump_imm Bits32 Equal dst n offset = simp (named dst)
jump_imm Bits64 Equal dst n offset = simp (named dst)
jump_imm w condition dst n offset = simp (named dst)

jump_reg : (w : Width) (condition : Condition) (dst src : Register) (offset : ℤ)
    → fault_of (fields_of (JumpIf w condition dst (Reg src) offset)) ≡ None
jump_reg Bits32 Equal dst src offset = simp (named dst, named src)
jump_reg Bits64 Equal dst src offset = simp (named dst, named src)
jump_reg w condition dst src offset = simp (named dst, named src)

negate : (w : Width) (dst : Register) → fault_of (fields_of (Negate w dst)) ≡ None
negate Bits32 dst = simp (named dst)
negate Bits64 dst = simp (named dst)

move_signed : (e : Extension) (dst src : Register) → fault_of (fields_of (MoveSigned e dst src)) ≡ None
move_signed Byte64 dst src = simp (named dst, named src)
move_signed e dst src = simp (named dst, named src)

order : (kind : ByteOrder) (w : OrderWidth) (dst : Register) → fault_of (fields_of (Order kind w dst)) ≡ None
order Little Order16 dst = simp (named dst)
order Little w dst = simp (named dst)
order kind Order16 dst = simp (named dst)
order kind w dst = simp (named dst)

load : (size : Size) (dst base : Register) (offset : ℤ) → fault_of (fields_of (Load size dst base offset)) ≡ None
load Word dst base offset = simp (named dst, named base)
load size dst base offset = simp (named dst, named base)

load_signed : (size : SignedSize) (dst base : Register) (offset : ℤ) → fault_of (fields_of (LoadSigned size dst base offset)) ≡ None
load_signed SignedWord dst base offset = simp (named dst, named base)
load_signed size dst base offset = simp (named dst, named base)

store_imm : (size : Size) (base : Register) (offset imm : ℤ) → fault_of (fields_of (StoreImm size base offset imm)) ≡ None
store_imm Word base offset imm = simp (named base)
store_imm size base offset imm = simp (named base)

store : (size : Size) (base src : Register) (offset : ℤ) → fault_of (fields_of (Store size base src offset)) ≡ None
store Word base src offset = simp (named base, named src)
store size base src offset = simp (named base, named src)

atomic_insn : (w : Width) (op : AtomicOperation) (base src : Register) (offset : ℤ) → fault_of (fields_of (Atomic w op base src offset)) ≡ None
atomic_insn Bits32 atomic.Add base src offset = simp (named base, named src)
atomic_insn Bits64 atomic.Add base src offset = simp (named base, named src)
atomic_insn w op base src offset = simp (named base, named src)

pub fault_of-fields_of : (i : Insn) → fault_of (fields_of i) ≡ None
fault_of-fields_of (Alu w op dst (Imm n)) = alu_imm w op dst n
fault_of-fields_of (Alu w op dst (Reg src)) = alu_reg w op dst src
fault_of-fields_of (Negate w dst) = negate w dst
fault_of-fields_of (MoveSigned e dst src) = move_signed e dst src
fault_of-fields_of (Order kind w dst) = order kind w dst
fault_of-fields_of (LoadWide dst value) = simp (named dst)
fault_of-fields_of (Jump offset) = refl
fault_of-fields_of (JumpLong offset) = refl
fault_of-fields_of (JumpIf w condition dst (Imm n) offset) = jump_imm w condition dst n offset
fault_of-fields_of (JumpIf w condition dst (Reg src) offset) = jump_reg w condition dst src offset
fault_of-fields_of (Load size dst base offset) = load size dst base offset
fault_of-fields_of (LoadSigned size dst base offset) = load_signed size dst base offset
fault_of-fields_of (StoreImm size base offset imm) = store_imm size base offset imm
fault_of-fields_of (Store size base src offset) = store size base src offset
fault_of-fields_of (Atomic w op base src offset) = atomic_insn w op base src offset
fault_of-fields_of (Call helper) = refl
fault_of-fields_of Exit = refl

-- ---- a wide instruction is told by its opcode

wide_alu : (w : Width) (op : Operation) (dst : Register) (s : Source) → is_wide_opcode (fields_of (Alu w op dst s)) ≡ false
wide_alu Bits32 Add dst (Imm n) = refl
wide_alu Bits64 Add dst (Imm n) = refl
wide_alu w op dst (Imm n) = refl
wide_alu Bits32 Add dst (Reg src) = refl
wide_alu Bits64 Add dst (Reg src) = refl
wide_alu w op dst (Reg src) = refl

wide_jump : (w : Width) (condition : Condition) (dst : Register) (s : Source) (offset : ℤ)
    → is_wide_opcode (fields_of (JumpIf w condition dst s offset)) ≡ false
wide_jump Bits32 Equal dst (Imm n) offset = refl
wide_jump Bits64 Equal dst (Imm n) offset = refl
wide_jump w condition dst (Imm n) offset = refl
wide_jump Bits32 Equal dst (Reg src) offset = refl
wide_jump Bits64 Equal dst (Reg src) offset = refl
wide_jump w condition dst (Reg src) offset = refl

wide_size : (size : Size) (dst base : Register) (offset : ℤ) → is_wide_opcode (fields_of (Load size dst base offset)) ≡ false
wide_size Word dst base offset = refl
wide_size size dst base offset = refl

wide_signed : (size : SignedSize) (dst base : Register) (offset : ℤ) → is_wide_opcode (fields_of (LoadSigned size dst base offset)) ≡ false
wide_signed SignedWord dst base offset = refl
wide_signed size dst base offset = refl

wide_store_imm : (size : Size) (base : Register) (offset imm : ℤ) → is_wide_opcode (fields_of (StoreImm size base offset imm)) ≡ false
wide_store_imm Word base offset imm = refl
wide_store_imm size base offset imm = refl

wide_store : (size : Size) (base src : Register) (offset : ℤ) → is_wide_opcode (fields_of (Store size base src offset)) ≡ false
wide_store Word base src offset = refl
wide_store size base src offset = refl

wide_atomic : (w : Width) (op : AtomicOperation) (base src : Register) (offset : ℤ) → is_wide_opcode (fields_of (Atomic w op base src offset)) ≡ false
wide_atomic Bits32 op base src offset = refl
wide_atomic Bits64 op base src offset = refl

wide_move : (e : Extension) (dst src : Register) → is_wide_opcode (fields_of (MoveSigned e dst src)) ≡ false
wide_move Byte64 dst src = refl
wide_move e dst src = refl

wide_order : (kind : ByteOrder) (w : OrderWidth) (dst : Register) → is_wide_opcode (fields_of (Order kind w dst)) ≡ false
wide_order Little w dst = refl
wide_order kind w dst = refl

wide_negate : (w : Width) (dst : Register) → is_wide_opcode (fields_of (Negate w dst)) ≡ false
wide_negate Bits32 dst = refl
wide_negate Bits64 dst = refl

pub is_wide_opcode-fields_of : (i : Insn) → is_wide_opcode (fields_of i) ≡ is_wide i
is_wide_opcode-fields_of (Alu w op dst s) = wide_alu w op dst s
is_wide_opcode-fields_of (Negate w dst) = wide_negate w dst
is_wide_opcode-fields_of (MoveSigned e dst src) = wide_move e dst src
is_wide_opcode-fields_of (Order kind w dst) = wide_order kind w dst
is_wide_opcode-fields_of (LoadWide dst value) = refl
is_wide_opcode-fields_of (Jump offset) = refl
is_wide_opcode-fields_of (JumpLong offset) = refl
is_wide_opcode-fields_of (JumpIf w condition dst s offset) = wide_jump w condition dst s offset
is_wide_opcode-fields_of (Load size dst base offset) = wide_size size dst base offset
is_wide_opcode-fields_of (LoadSigned size dst base offset) = wide_signed size dst base offset
is_wide_opcode-fields_of (StoreImm size base offset imm) = wide_store_imm size base offset imm
is_wide_opcode-fields_of (Store size base src offset) = wide_store size base src offset
is_wide_opcode-fields_of (Atomic w op base src offset) = wide_atomic w op base src offset
is_wide_opcode-fields_of (Call helper) = refl
is_wide_opcode-fields_of Exit = refl
