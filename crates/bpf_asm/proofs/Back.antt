-- Each name is read as what it names.
use Rattle.std.proofs.Common.{◌≡◌, true, Ok, refl}
use Rattle.bpf_encoding.specs.declared.insn.Register.{Register}
use Rattle.bpf_encoding.specs.declared.insn.Register.TheVariants.{R0, R1, R2, R3, R4, R5, R6, R7, R8, R9, R10}
use Rattle.bpf_encoding.specs.declared.insn.Operation.TheVariants.{Add, Sub, Mul, Div, SignedDiv, Or, And, LeftShift}
use Rattle.bpf_encoding.specs.declared.insn.Operation.TheVariants.{RightShift, Mod, SignedMod, Xor, Mov}
use Rattle.bpf_encoding.specs.declared.insn.Operation.TheVariants.{SignedRightShift}
use Rattle.bpf_encoding.specs.declared.insn.AtomicOperation.TheVariants as atomic
use Rattle.bpf_encoding.specs.declared.insn.Condition.TheVariants.{Equal, Greater, GreaterOrEqual, AnyBit, NotEqual}
use Rattle.bpf_encoding.specs.declared.insn.Condition.TheVariants.{SignedGreater, SignedGreaterOrEqual, Less}
use Rattle.bpf_encoding.specs.declared.insn.Condition.TheVariants.{LessOrEqual, SignedLess, SignedLessOrEqual}
use Rattle.bpf_encoding.specs.declared.insn.Width.TheVariants.{Bits64, Bits32}
use Rattle.bpf_encoding.specs.declared.insn.Extension.TheVariants.{Byte64, Half64, Word64, Byte32, Half32}
use Rattle.bpf_encoding.specs.declared.insn.ByteOrder.TheVariants.{Little, Big, Swap}
use Rattle.bpf_encoding.specs.declared.insn.OrderWidth.TheVariants.{Order16, Order32, Order64}
use Rattle.bpf_encoding.specs.declared.insn.Size.TheVariants.{Word, Half, Byte, Double}
use Rattle.bpf_encoding.specs.declared.insn.SignedSize.TheVariants.{SignedWord, SignedHalf, SignedByte}
use Rattle.bpf_asm.specs.declared.mnemonic.Mnemonic.{Mnemonic}
use Rattle.bpf_asm.specs.declared.mnemonic.Mnemonic.TheVariants as m
use Rattle.bpf_asm.specs.Mnemonics.{mnemonic_name, mnemonic_said}
use Rattle.bpf_asm.specs.Operand.{register_name, register_said}
use Rattle.bpf_asm.proofs.Plain.{is_solid}

mnemonic_reads : (x : Mnemonic) → (mnemonic_said (mnemonic_name x) ≡ Ok x) × (is_solid (mnemonic_name x) ≡ true)
mnemonic_reads (m.Alu Bits64 Add) = (refl, refl)
mnemonic_reads (m.Alu Bits64 Sub) = (refl, refl)
mnemonic_reads (m.Alu Bits64 Mul) = (refl, refl)
mnemonic_reads (m.Alu Bits64 Div) = (refl, refl)
mnemonic_reads (m.Alu Bits64 SignedDiv) = (refl, refl)
mnemonic_reads (m.Alu Bits64 Or) = (refl, refl)
mnemonic_reads (m.Alu Bits64 And) = (refl, refl)
mnemonic_reads (m.Alu Bits64 LeftShift) = (refl, refl)
mnemonic_reads (m.Alu Bits64 RightShift) = (refl, refl)
mnemonic_reads (m.Alu Bits64 Mod) = (refl, refl)
mnemonic_reads (m.Alu Bits64 SignedMod) = (refl, refl)
mnemonic_reads (m.Alu Bits64 Xor) = (refl, refl)
mnemonic_reads (m.Alu Bits64 Mov) = (refl, refl)
mnemonic_reads (m.Alu Bits64 SignedRightShift) = (refl, refl)
mnemonic_reads (m.Alu Bits32 Add) = (refl, refl)
mnemonic_reads (m.Alu Bits32 Sub) = (refl, refl)
mnemonic_reads (m.Alu Bits32 Mul) = (refl, refl)
mnemonic_reads (m.Alu Bits32 Div) = (refl, refl)
mnemonic_reads (m.Alu Bits32 SignedDiv) = (refl, refl)
mnemonic_reads (m.Alu Bits32 Or) = (refl, refl)
mnemonic_reads (m.Alu Bits32 And) = (refl, refl)
mnemonic_reads (m.Alu Bits32 LeftShift) = (refl, refl)
mnemonic_reads (m.Alu Bits32 RightShift) = (refl, refl)
mnemonic_reads (m.Alu Bits32 Mod) = (refl, refl)
mnemonic_reads (m.Alu Bits32 SignedMod) = (refl, refl)
mnemonic_reads (m.Alu Bits32 Xor) = (refl, refl)
mnemonic_reads (m.Alu Bits32 Mov) = (refl, refl)
mnemonic_reads (m.Alu Bits32 SignedRightShift) = (refl, refl)
mnemonic_reads (m.Negate Bits64) = (refl, refl)
mnemonic_reads (m.Negate Bits32) = (refl, refl)
mnemonic_reads (m.MoveSigned Byte64) = (refl, refl)
mnemonic_reads (m.MoveSigned Half64) = (refl, refl)
mnemonic_reads (m.MoveSigned Word64) = (refl, refl)
mnemonic_reads (m.MoveSigned Byte32) = (refl, refl)
mnemonic_reads (m.MoveSigned Half32) = (refl, refl)
mnemonic_reads (m.Order Little Order16) = (refl, refl)
mnemonic_reads (m.Order Little Order32) = (refl, refl)
mnemonic_reads (m.Order Little Order64) = (refl, refl)
mnemonic_reads (m.Order Big Order16) = (refl, refl)
mnemonic_reads (m.Order Big Order32) = (refl, refl)
mnemonic_reads (m.Order Big Order64) = (refl, refl)
mnemonic_reads (m.Order Swap Order16) = (refl, refl)
mnemonic_reads (m.Order Swap Order32) = (refl, refl)
mnemonic_reads (m.Order Swap Order64) = (refl, refl)
mnemonic_reads m.LoadWide = (refl, refl)
mnemonic_reads m.Jump = (refl, refl)
mnemonic_reads m.JumpLong = (refl, refl)
mnemonic_reads (m.JumpIf Bits64 Equal) = (refl, refl)
mnemonic_reads (m.JumpIf Bits64 Greater) = (refl, refl)
mnemonic_reads (m.JumpIf Bits64 GreaterOrEqual) = (refl, refl)
mnemonic_reads (m.JumpIf Bits64 AnyBit) = (refl, refl)
mnemonic_reads (m.JumpIf Bits64 NotEqual) = (refl, refl)
mnemonic_reads (m.JumpIf Bits64 SignedGreater) = (refl, refl)
mnemonic_reads (m.JumpIf Bits64 SignedGreaterOrEqual) = (refl, refl)
mnemonic_reads (m.JumpIf Bits64 Less) = (refl, refl)
mnemonic_reads (m.JumpIf Bits64 LessOrEqual) = (refl, refl)
mnemonic_reads (m.JumpIf Bits64 SignedLess) = (refl, refl)
mnemonic_reads (m.JumpIf Bits64 SignedLessOrEqual) = (refl, refl)
mnemonic_reads (m.JumpIf Bits32 Equal) = (refl, refl)
mnemonic_reads (m.JumpIf Bits32 Greater) = (refl, refl)
mnemonic_reads (m.JumpIf Bits32 GreaterOrEqual) = (refl, refl)
mnemonic_reads (m.JumpIf Bits32 AnyBit) = (refl, refl)
mnemonic_reads (m.JumpIf Bits32 NotEqual) = (refl, refl)
mnemonic_reads (m.JumpIf Bits32 SignedGreater) = (refl, refl)
mnemonic_reads (m.JumpIf Bits32 SignedGreaterOrEqual) = (refl, refl)
mnemonic_reads (m.JumpIf Bits32 Less) = (refl, refl)
mnemonic_reads (m.JumpIf Bits32 LessOrEqual) = (refl, refl)
mnemonic_reads (m.JumpIf Bits32 SignedLess) = (refl, refl)
mnemonic_reads (m.JumpIf Bits32 SignedLessOrEqual) = (refl, refl)
mnemonic_reads (m.Load Word) = (refl, refl)
mnemonic_reads (m.Load Half) = (refl, refl)
mnemonic_reads (m.Load Byte) = (refl, refl)
mnemonic_reads (m.Load Double) = (refl, refl)
mnemonic_reads (m.LoadSigned SignedWord) = (refl, refl)
mnemonic_reads (m.LoadSigned SignedHalf) = (refl, refl)
mnemonic_reads (m.LoadSigned SignedByte) = (refl, refl)
mnemonic_reads (m.StoreImm Word) = (refl, refl)
mnemonic_reads (m.StoreImm Half) = (refl, refl)
mnemonic_reads (m.StoreImm Byte) = (refl, refl)
mnemonic_reads (m.StoreImm Double) = (refl, refl)
mnemonic_reads (m.Store Word) = (refl, refl)
mnemonic_reads (m.Store Half) = (refl, refl)
mnemonic_reads (m.Store Byte) = (refl, refl)
mnemonic_reads (m.Store Double) = (refl, refl)
mnemonic_reads (m.Atomic Bits32 atomic.Add) = (refl, refl)
mnemonic_reads (m.Atomic Bits32 atomic.Or) = (refl, refl)
mnemonic_reads (m.Atomic Bits32 atomic.And) = (refl, refl)
mnemonic_reads (m.Atomic Bits32 atomic.Xor) = (refl, refl)
mnemonic_reads (m.Atomic Bits32 atomic.FetchAdd) = (refl, refl)
mnemonic_reads (m.Atomic Bits32 atomic.FetchOr) = (refl, refl)
mnemonic_reads (m.Atomic Bits32 atomic.FetchAnd) = (refl, refl)
mnemonic_reads (m.Atomic Bits32 atomic.FetchXor) = (refl, refl)
mnemonic_reads (m.Atomic Bits32 atomic.Exchange) = (refl, refl)
mnemonic_reads (m.Atomic Bits32 atomic.CompareExchange) = (refl, refl)
mnemonic_reads (m.Atomic Bits64 atomic.Add) = (refl, refl)
mnemonic_reads (m.Atomic Bits64 atomic.Or) = (refl, refl)
mnemonic_reads (m.Atomic Bits64 atomic.And) = (refl, refl)
mnemonic_reads (m.Atomic Bits64 atomic.Xor) = (refl, refl)
mnemonic_reads (m.Atomic Bits64 atomic.FetchAdd) = (refl, refl)
mnemonic_reads (m.Atomic Bits64 atomic.FetchOr) = (refl, refl)
mnemonic_reads (m.Atomic Bits64 atomic.FetchAnd) = (refl, refl)
mnemonic_reads (m.Atomic Bits64 atomic.FetchXor) = (refl, refl)
mnemonic_reads (m.Atomic Bits64 atomic.Exchange) = (refl, refl)
mnemonic_reads (m.Atomic Bits64 atomic.CompareExchange) = (refl, refl)
mnemonic_reads m.Call = (refl, refl)
mnemonic_reads m.Exit = (refl, refl)

pub mnemonic_back : (x : Mnemonic) → mnemonic_said (mnemonic_name x) ≡ Ok x
mnemonic_back x = (mnemonic_reads x).0

pub mnemonic_solid : (x : Mnemonic) → is_solid (mnemonic_name x) ≡ true
mnemonic_solid x = (mnemonic_reads x).1

register_reads : (r : Register) → (register_said (register_name r) ≡ Ok r) × (is_solid (register_name r) ≡ true)
register_reads R0 = (refl, refl)
register_reads R1 = (refl, refl)
register_reads R2 = (refl, refl)
register_reads R3 = (refl, refl)
register_reads R4 = (refl, refl)
register_reads R5 = (refl, refl)
register_reads R6 = (refl, refl)
register_reads R7 = (refl, refl)
register_reads R8 = (refl, refl)
register_reads R9 = (refl, refl)
register_reads R10 = (refl, refl)

pub register_back : (r : Register) → register_said (register_name r) ≡ Ok r
register_back r = (register_reads r).0

pub register_solid : (r : Register) → is_solid (register_name r) ≡ true
register_solid r = (register_reads r).1
