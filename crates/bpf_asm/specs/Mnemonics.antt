-- The words of assembly text, and what each says but for its operands.
use Rattle.std.specs.Prelude.{ℕ, if◌then◌else◌, List, [], ◌∷◌, ◌++◌, Result, Ok, Err, codes}
use Rattle.std.specs.Str.{bytes_eq}
use Rattle.bpf_asm.specs.declared.line.LineFault.{LineFault}
use Rattle.bpf_asm.specs.declared.line.LineFault.TheVariants.{UnknownWord}
use Rattle.bpf_asm.specs.declared.mnemonic.Mnemonic.{Mnemonic}
use Rattle.bpf_asm.specs.declared.mnemonic.Mnemonic.TheVariants.{Alu, Negate, MoveSigned, Order, LoadWide, Jump}
use Rattle.bpf_asm.specs.declared.mnemonic.Mnemonic.TheVariants.{JumpLong, JumpIf, Load, LoadSigned, StoreImm, Store}
use Rattle.bpf_asm.specs.declared.mnemonic.Mnemonic.TheVariants.{Atomic, Call, Exit}
use Rattle.bpf_encoding.specs.declared.insn.Operation.{Operation}
use Rattle.bpf_encoding.specs.declared.insn.Operation.TheVariants.{Add, Sub, Mul, Div, SignedDiv, Or, And, LeftShift}
use Rattle.bpf_encoding.specs.declared.insn.Operation.TheVariants.{RightShift, Mod, SignedMod, Xor, Mov}
use Rattle.bpf_encoding.specs.declared.insn.Operation.TheVariants.{SignedRightShift}
use Rattle.bpf_encoding.specs.declared.insn.AtomicOperation.{AtomicOperation}
use Rattle.bpf_encoding.specs.declared.insn.AtomicOperation.TheVariants as atomic
use Rattle.bpf_encoding.specs.declared.insn.Condition.{Condition}
use Rattle.bpf_encoding.specs.declared.insn.Condition.TheVariants.{Equal, Greater, GreaterOrEqual, AnyBit, NotEqual}
use Rattle.bpf_encoding.specs.declared.insn.Condition.TheVariants.{SignedGreater, SignedGreaterOrEqual, Less}
use Rattle.bpf_encoding.specs.declared.insn.Condition.TheVariants.{LessOrEqual, SignedLess, SignedLessOrEqual}
use Rattle.bpf_encoding.specs.declared.insn.Width.{Width}
use Rattle.bpf_encoding.specs.declared.insn.Width.TheVariants.{Bits64, Bits32}
use Rattle.bpf_encoding.specs.declared.insn.Extension.{Extension}
use Rattle.bpf_encoding.specs.declared.insn.Extension.TheVariants.{Byte64, Half64, Word64, Byte32, Half32}
use Rattle.bpf_encoding.specs.declared.insn.ByteOrder.{ByteOrder}
use Rattle.bpf_encoding.specs.declared.insn.ByteOrder.TheVariants.{Little, Big, Swap}
use Rattle.bpf_encoding.specs.declared.insn.OrderWidth.{OrderWidth}
use Rattle.bpf_encoding.specs.declared.insn.OrderWidth.TheVariants.{Order16, Order32, Order64}
use Rattle.bpf_encoding.specs.declared.insn.Size.{Size}
use Rattle.bpf_encoding.specs.declared.insn.Size.TheVariants.{Byte, Half, Word, Double}
use Rattle.bpf_encoding.specs.declared.insn.SignedSize.{SignedSize}
use Rattle.bpf_encoding.specs.declared.insn.SignedSize.TheVariants.{SignedByte, SignedHalf, SignedWord}

-- the first of a row that has this name
abbrev pub named : {A : Type 0} → (A → List ℕ) → LineFault → List A → List ℕ → Result A LineFault
named name fault [] text = Err fault
named name fault (x ∷ xs) text = if bytes_eq text (name x) then Ok x else named name fault xs text

abbrev pub operation_name : Operation → List ℕ
operation_name Add = codes "add"
operation_name Sub = codes "sub"
operation_name Mul = codes "mul"
operation_name Div = codes "div"
operation_name SignedDiv = codes "sdiv"
operation_name Or = codes "or"
operation_name And = codes "and"
operation_name LeftShift = codes "lsh"
operation_name RightShift = codes "rsh"
operation_name Mod = codes "mod"
operation_name SignedMod = codes "smod"
operation_name Xor = codes "xor"
operation_name Mov = codes "mov"
operation_name SignedRightShift = codes "arsh"

abbrev pub condition_name : Condition → List ℕ
condition_name Equal = codes "jeq"
condition_name Greater = codes "jgt"
condition_name GreaterOrEqual = codes "jge"
condition_name AnyBit = codes "jset"
condition_name NotEqual = codes "jne"
condition_name SignedGreater = codes "jsgt"
condition_name SignedGreaterOrEqual = codes "jsge"
condition_name Less = codes "jlt"
condition_name LessOrEqual = codes "jle"
condition_name SignedLess = codes "jslt"
condition_name SignedLessOrEqual = codes "jsle"

abbrev pub width_suffix : Width → List ℕ
width_suffix Bits64 = []
width_suffix Bits32 = codes "32"

abbrev pub extension_name : Extension → List ℕ
extension_name Byte64 = codes "movs8"
extension_name Half64 = codes "movs16"
extension_name Word64 = codes "movs32"
extension_name Byte32 = codes "movs8_32"
extension_name Half32 = codes "movs16_32"

abbrev pub order_name : ByteOrder → List ℕ
order_name Little = codes "le"
order_name Big = codes "be"
order_name Swap = codes "swap"

abbrev pub order_suffix : OrderWidth → List ℕ
order_suffix Order16 = codes "16"
order_suffix Order32 = codes "32"
order_suffix Order64 = codes "64"

abbrev pub size_suffix : Size → List ℕ
size_suffix Byte = codes "b"
size_suffix Half = codes "h"
size_suffix Word = codes "w"
size_suffix Double = codes "dw"

abbrev pub signed_size_suffix : SignedSize → List ℕ
signed_size_suffix SignedByte = codes "b"
signed_size_suffix SignedHalf = codes "h"
signed_size_suffix SignedWord = codes "w"

abbrev pub atomic_name : AtomicOperation → List ℕ
atomic_name atomic.Add = codes "atomic_add"
atomic_name atomic.Or = codes "atomic_or"
atomic_name atomic.And = codes "atomic_and"
atomic_name atomic.Xor = codes "atomic_xor"
atomic_name atomic.FetchAdd = codes "atomic_fetch_add"
atomic_name atomic.FetchOr = codes "atomic_fetch_or"
atomic_name atomic.FetchAnd = codes "atomic_fetch_and"
atomic_name atomic.FetchXor = codes "atomic_fetch_xor"
atomic_name atomic.Exchange = codes "atomic_xchg"
atomic_name atomic.CompareExchange = codes "atomic_cmpxchg"

-- 4 or 8 bytes
abbrev pub atomic_suffix : Width → List ℕ
atomic_suffix Bits32 = codes "_w"
atomic_suffix Bits64 = codes "_dw"

abbrev pub mnemonic_name : Mnemonic → List ℕ
mnemonic_name (Alu width operation) = operation_name operation ++ width_suffix width
mnemonic_name (Negate width) = codes "neg" ++ width_suffix width
mnemonic_name (MoveSigned extension) = extension_name extension
mnemonic_name (Order order width) = order_name order ++ order_suffix width
mnemonic_name LoadWide = codes "lddw"
mnemonic_name Jump = codes "ja"
mnemonic_name JumpLong = codes "ja32"
mnemonic_name (JumpIf width condition) = condition_name condition ++ width_suffix width
mnemonic_name (Load size) = codes "ldx" ++ size_suffix size
mnemonic_name (LoadSigned size) = codes "ldxs" ++ signed_size_suffix size
mnemonic_name (StoreImm size) = codes "st" ++ size_suffix size
mnemonic_name (Store size) = codes "stx" ++ size_suffix size
mnemonic_name (Atomic width operation) = atomic_name operation ++ atomic_suffix width
mnemonic_name Call = codes "call"
mnemonic_name Exit = codes "exit"

abbrev pub operand_count : Mnemonic → ℕ
operand_count (Alu width operation) = 2
operand_count (Negate width) = 1
operand_count (MoveSigned extension) = 2
operand_count (Order order width) = 1
operand_count LoadWide = 2
operand_count Jump = 1
operand_count JumpLong = 1
operand_count (JumpIf width condition) = 3
operand_count (Load size) = 2
operand_count (LoadSigned size) = 2
operand_count (StoreImm size) = 2
operand_count (Store size) = 2
operand_count (Atomic width operation) = 2
operand_count Call = 1
operand_count Exit = 0

abbrev pub mnemonics : List Mnemonic
mnemonics = (Alu Bits64 Add) ∷ (Alu Bits64 Sub) ∷ (Alu Bits64 Mul) ∷ (Alu Bits64 Div) ∷ (Alu Bits64 SignedDiv) ∷
    (Alu Bits64 Or) ∷ (Alu Bits64 And) ∷ (Alu Bits64 LeftShift) ∷ (Alu Bits64 RightShift) ∷ (Alu Bits64 Mod) ∷
    (Alu Bits64 SignedMod) ∷ (Alu Bits64 Xor) ∷ (Alu Bits64 Mov) ∷ (Alu Bits64 SignedRightShift) ∷
    (Alu Bits32 Add) ∷ (Alu Bits32 Sub) ∷ (Alu Bits32 Mul) ∷ (Alu Bits32 Div) ∷ (Alu Bits32 SignedDiv) ∷
    (Alu Bits32 Or) ∷ (Alu Bits32 And) ∷ (Alu Bits32 LeftShift) ∷ (Alu Bits32 RightShift) ∷ (Alu Bits32 Mod) ∷
    (Alu Bits32 SignedMod) ∷ (Alu Bits32 Xor) ∷ (Alu Bits32 Mov) ∷ (Alu Bits32 SignedRightShift) ∷
    (Negate Bits64) ∷ (Negate Bits32) ∷ (MoveSigned Byte64) ∷ (MoveSigned Half64) ∷ (MoveSigned Word64) ∷
    (MoveSigned Byte32) ∷ (MoveSigned Half32) ∷ (Order Little Order16) ∷ (Order Little Order32) ∷
    (Order Little Order64) ∷ (Order Big Order16) ∷ (Order Big Order32) ∷ (Order Big Order64) ∷
    (Order Swap Order16) ∷ (Order Swap Order32) ∷ (Order Swap Order64) ∷ LoadWide ∷ Jump ∷ JumpLong ∷
    (JumpIf Bits64 Equal) ∷ (JumpIf Bits64 Greater) ∷ (JumpIf Bits64 GreaterOrEqual) ∷ (JumpIf Bits64 AnyBit) ∷
    (JumpIf Bits64 NotEqual) ∷ (JumpIf Bits64 SignedGreater) ∷ (JumpIf Bits64 SignedGreaterOrEqual) ∷
    (JumpIf Bits64 Less) ∷ (JumpIf Bits64 LessOrEqual) ∷ (JumpIf Bits64 SignedLess) ∷
    (JumpIf Bits64 SignedLessOrEqual) ∷ (JumpIf Bits32 Equal) ∷ (JumpIf Bits32 Greater) ∷
    (JumpIf Bits32 GreaterOrEqual) ∷ (JumpIf Bits32 AnyBit) ∷ (JumpIf Bits32 NotEqual) ∷
    (JumpIf Bits32 SignedGreater) ∷ (JumpIf Bits32 SignedGreaterOrEqual) ∷ (JumpIf Bits32 Less) ∷
    (JumpIf Bits32 LessOrEqual) ∷ (JumpIf Bits32 SignedLess) ∷ (JumpIf Bits32 SignedLessOrEqual) ∷ (Load Byte) ∷
    (Load Half) ∷ (Load Word) ∷ (Load Double) ∷ (LoadSigned SignedByte) ∷ (LoadSigned SignedHalf) ∷
    (LoadSigned SignedWord) ∷ (StoreImm Byte) ∷ (StoreImm Half) ∷ (StoreImm Word) ∷ (StoreImm Double) ∷
    (Store Byte) ∷ (Store Half) ∷ (Store Word) ∷ (Store Double) ∷ (Atomic Bits32 atomic.Add) ∷
    (Atomic Bits32 atomic.Or) ∷ (Atomic Bits32 atomic.And) ∷ (Atomic Bits32 atomic.Xor) ∷
    (Atomic Bits32 atomic.FetchAdd) ∷ (Atomic Bits32 atomic.FetchOr) ∷ (Atomic Bits32 atomic.FetchAnd) ∷
    (Atomic Bits32 atomic.FetchXor) ∷ (Atomic Bits32 atomic.Exchange) ∷ (Atomic Bits32 atomic.CompareExchange) ∷
    (Atomic Bits64 atomic.Add) ∷ (Atomic Bits64 atomic.Or) ∷ (Atomic Bits64 atomic.And) ∷
    (Atomic Bits64 atomic.Xor) ∷ (Atomic Bits64 atomic.FetchAdd) ∷ (Atomic Bits64 atomic.FetchOr) ∷
    (Atomic Bits64 atomic.FetchAnd) ∷ (Atomic Bits64 atomic.FetchXor) ∷ (Atomic Bits64 atomic.Exchange) ∷
    (Atomic Bits64 atomic.CompareExchange) ∷ Call ∷ Exit ∷ []

abbrev pub mnemonic_said : List ℕ → Result Mnemonic LineFault
mnemonic_said text = named mnemonic_name UnknownWord mnemonics text
