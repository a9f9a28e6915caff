-- The instruction that a slot's fields name (RFC 9669, sections 3 to 5): spelling, read the other way.
use Rattle.std.specs.Prelude.{ℕ, ◌+◌, ◌*◌, ◌^◌, ◌==◌, ℤ, pos, Bool, true, false, if◌then◌else◌, List, [], ◌∷◌, Option, Some, None}
use Rattle.std.specs.Ordering.{int_eq}
use Rattle.std.specs.Int.{w32, cast_unsigned}
use Rattle.bpf_encoding.specs.Fields.{Fields, class_of, code_of, takes_register, size_of, mode_of, slots_of}
use Rattle.bpf_encoding.specs.Spells.{is_wide_opcode}
use Rattle.bpf_encoding.specs.declared.insn.Register.{Register}
use Rattle.bpf_encoding.specs.declared.insn.Register.TheVariants.{R0, R1, R2, R3, R4, R5, R6, R7, R8, R9, R10}
use Rattle.bpf_encoding.specs.declared.insn.Width.{Width}
use Rattle.bpf_encoding.specs.declared.insn.Width.TheVariants.{Bits32, Bits64}
use Rattle.bpf_encoding.specs.declared.insn.Size.{Size}
use Rattle.bpf_encoding.specs.declared.insn.Size.TheVariants.{Word, Half, Byte, Double}
use Rattle.bpf_encoding.specs.declared.insn.SignedSize.{SignedSize}
use Rattle.bpf_encoding.specs.declared.insn.SignedSize.TheVariants.{SignedWord, SignedHalf, SignedByte}
use Rattle.bpf_encoding.specs.declared.insn.Source.{Source}
use Rattle.bpf_encoding.specs.declared.insn.Source.TheVariants.{Imm, Reg}
use Rattle.bpf_encoding.specs.declared.insn.Operation.{Operation}
use Rattle.bpf_encoding.specs.declared.insn.Operation.TheVariants.{Add, Sub, Mul, Div, SignedDiv, Or, And, LeftShift}
use Rattle.bpf_encoding.specs.declared.insn.Operation.TheVariants.{RightShift, Mod, SignedMod, Xor, Mov}
use Rattle.bpf_encoding.specs.declared.insn.Operation.TheVariants.{SignedRightShift}
use Rattle.bpf_encoding.specs.declared.insn.Extension.{Extension}
use Rattle.bpf_encoding.specs.declared.insn.Extension.TheVariants.{Byte64, Half64, Word64, Byte32, Half32}
use Rattle.bpf_encoding.specs.declared.insn.ByteOrder.{ByteOrder}
use Rattle.bpf_encoding.specs.declared.insn.ByteOrder.TheVariants.{Little, Big, Swap}
use Rattle.bpf_encoding.specs.declared.insn.OrderWidth.{OrderWidth}
use Rattle.bpf_encoding.specs.declared.insn.OrderWidth.TheVariants.{Order16, Order32, Order64}
use Rattle.bpf_encoding.specs.declared.insn.Condition.{Condition}
use Rattle.bpf_encoding.specs.declared.insn.Condition.TheVariants.{Equal, Greater, GreaterOrEqual, AnyBit, NotEqual}
use Rattle.bpf_encoding.specs.declared.insn.Condition.TheVariants.{SignedGreater, SignedGreaterOrEqual, Less}
use Rattle.bpf_encoding.specs.declared.insn.Condition.TheVariants.{LessOrEqual, SignedLess, SignedLessOrEqual}
use Rattle.bpf_encoding.specs.declared.insn.AtomicOperation.{AtomicOperation}
use Rattle.bpf_encoding.specs.declared.insn.AtomicOperation.TheVariants as atomic
use Rattle.bpf_encoding.specs.declared.insn.Insn.{Insn}
use Rattle.bpf_encoding.specs.declared.insn.Insn.TheVariants.{Alu, Negate, MoveSigned, Order, LoadWide, Jump}
use Rattle.bpf_encoding.specs.declared.insn.Insn.TheVariants.{JumpLong, JumpIf, Load, LoadSigned, StoreImm, Store}
use Rattle.bpf_encoding.specs.declared.insn.Insn.TheVariants.{Atomic, Call, Exit}
use Rattle.bpf_encoding.specs.declared.insn.Place.{Place}
use Rattle.bpf_encoding.specs.declared.insn.Place.TheVariants as place

abbrev pub register_named : ℕ → Register
register_named n =
    if n == 0 then R0 else
    if n == 1 then R1 else
    if n == 2 then R2 else
    if n == 3 then R3 else
    if n == 4 then R4 else
    if n == 5 then R5 else
    if n == 6 then R6 else
    if n == 7 then R7 else
    if n == 8 then R8 else
    if n == 9 then R9 else
    R10

abbrev pub source_named : Bool → ℕ → ℤ → Source
source_named true src imm = Reg (register_named src)
source_named false src imm = Imm imm

-- signed division and modulo are told from the unsigned ones by offset 1
abbrev pub operation_named : ℕ → ℤ → Operation
operation_named code offset =
    if code == 0 then Add else
    if code == 1 then Sub else
    if code == 2 then Mul else
    if code == 3 then (if int_eq offset (pos 0) then Div else SignedDiv) else
    if code == 4 then Or else
    if code == 5 then And else
    if code == 6 then LeftShift else
    if code == 7 then RightShift else
    if code == 9 then (if int_eq offset (pos 0) then Mod else SignedMod) else
    if code == 10 then Xor else
    if code == 11 then Mov else
    SignedRightShift

abbrev pub condition_named : ℕ → Condition
condition_named code =
    if code == 1 then Equal else
    if code == 2 then Greater else
    if code == 3 then GreaterOrEqual else
    if code == 4 then AnyBit else
    if code == 5 then NotEqual else
    if code == 6 then SignedGreater else
    if code == 7 then SignedGreaterOrEqual else
    if code == 10 then Less else
    if code == 11 then LessOrEqual else
    if code == 12 then SignedLess else
    SignedLessOrEqual

abbrev pub extension_named : Width → ℤ → Extension
extension_named Bits64 offset = if int_eq offset (pos 8) then Byte64 else if int_eq offset (pos 16) then Half64 else Word64
extension_named Bits32 offset = if int_eq offset (pos 8) then Byte32 else Half32

abbrev pub order_width_named : ℤ → OrderWidth
order_width_named imm =
    if int_eq imm (pos 16) then Order16 else
    if int_eq imm (pos 32) then Order32 else
    Order64

abbrev pub order_named : Width → Bool → ByteOrder
order_named Bits32 false = Little
order_named Bits32 true = Big
order_named Bits64 x = Swap

abbrev pub size_named : ℕ → Size
size_named n =
    if n == 0 then Word else
    if n == 1 then Half else
    if n == 2 then Byte else
    Double

abbrev pub signed_size_named : ℕ → SignedSize
signed_size_named n =
    if n == 0 then SignedWord else
    if n == 1 then SignedHalf else
    SignedByte

abbrev pub move_named : Width → Bool → Fields → Insn
move_named w x f =
    if int_eq f.offset (pos 0) then Alu w Mov (register_named f.dst) (source_named x f.src f.imm) else
    MoveSigned (extension_named w f.offset) (register_named f.dst) (register_named f.src)

abbrev pub alu_named : Width → ℕ → Bool → Fields → Insn
alu_named w code x f =
    if code == 8 then Negate w (register_named f.dst) else
    if code == 11 then move_named w x f else
    if code == 13 then Order (order_named w x) (order_width_named f.imm) (register_named f.dst) else
    Alu w (operation_named code f.offset) (register_named f.dst) (source_named x f.src f.imm)

abbrev pub jump_always_named : Width → Fields → Insn
jump_always_named Bits64 f = Jump f.offset
jump_always_named Bits32 f = JumpLong f.imm

abbrev pub jump_named : Width → ℕ → Bool → Fields → Insn
jump_named w code x f =
    if code == 0 then jump_always_named w f else
    if code == 8 then Call f.imm else
    if code == 9 then Exit else
    JumpIf w (condition_named code) (register_named f.dst) (source_named x f.src f.imm) f.offset

abbrev pub load_named : Fields → Insn
load_named f =
    if mode_of f.opcode == 4 then
    LoadSigned (signed_size_named (size_of f.opcode)) (register_named f.dst) (register_named f.src) f.offset else
    Load (size_named (size_of f.opcode)) (register_named f.dst) (register_named f.src) f.offset

abbrev pub atomic_operation_named : ℤ → AtomicOperation
atomic_operation_named imm =
    if int_eq imm (pos 0x00) then atomic.Add else
    if int_eq imm (pos 0x40) then atomic.Or else
    if int_eq imm (pos 0x50) then atomic.And else
    if int_eq imm (pos 0xa0) then atomic.Xor else
    if int_eq imm (pos 0x01) then atomic.FetchAdd else
    if int_eq imm (pos 0x41) then atomic.FetchOr else
    if int_eq imm (pos 0x51) then atomic.FetchAnd else
    if int_eq imm (pos 0xa1) then atomic.FetchXor else
    if int_eq imm (pos 0xe1) then atomic.Exchange else
    atomic.CompareExchange

-- of atomic operations: W or DW
abbrev pub atomic_width_named : ℕ → Width
atomic_width_named size = if size == 0 then Bits32 else Bits64

abbrev pub store_named : Fields → Insn
store_named f =
    if mode_of f.opcode == 6 then
    Atomic (atomic_width_named (size_of f.opcode)) (atomic_operation_named f.imm) (register_named f.dst)
    (register_named f.src) f.offset else
    Store (size_named (size_of f.opcode)) (register_named f.dst) (register_named f.src) f.offset

-- of a wide instruction its first slot, with the low half of the value alone
abbrev pub insn_named : Fields → Insn
insn_named f =
    if class_of f.opcode == 0 then LoadWide (register_named f.dst) (cast_unsigned w32 f.imm) else
    if class_of f.opcode == 1 then load_named f else
    if class_of f.opcode == 2 then StoreImm (size_named (size_of f.opcode)) (register_named f.dst) f.offset f.imm else
    if class_of f.opcode == 3 then store_named f else
    if class_of f.opcode == 4 then alu_named Bits32 (code_of f.opcode) (takes_register f.opcode) f else
    if class_of f.opcode == 5 then jump_named Bits64 (code_of f.opcode) (takes_register f.opcode) f else
    if class_of f.opcode == 6 then jump_named Bits32 (code_of f.opcode) (takes_register f.opcode) f else
    alu_named Bits64 (code_of f.opcode) (takes_register f.opcode) f

-- the number of a wide instruction, by its two halves
abbrev pub wide_named : ℕ → ℕ → ℕ
wide_named low high = low + 2 ^ 32 * high

-- what slots name, each wide instruction with the next slot; a first half that is due is its register and low number
abbrev pub named_from : Option (Register × ℕ) → List Fields → List Place
named_from None [] = []
named_from (Some half) [] = []
named_from None (f ∷ fs) =
    if is_wide_opcode f then named_from (Some (register_named f.dst, cast_unsigned w32 f.imm)) fs else
    place.Insn (insn_named f) ∷ named_from None fs
named_from (Some half) (f ∷ fs) = place.Insn (LoadWide half.0 (wide_named half.1 (cast_unsigned w32 f.imm)))
    ∷ place.Second ∷ named_from None fs

-- the row of places that bytes name
abbrev pub code_named : List ℕ → List Place
code_named bytes = named_from None (slots_of bytes)
