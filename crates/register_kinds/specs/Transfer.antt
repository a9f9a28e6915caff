-- What each instruction does to the kinds of the registers.
use Rattle.std.specs.Prelude.{ℕ, ◌%◌, ◌^◌, ℤ, pos, Bool, true, false, not, ◌==◌, if◌then◌else◌, Option, Some, None, Result, Ok}
use Rattle.std.specs.Int.{byte_len}
use Rattle.std.specs.Ordering.{int_eq}
use Rattle.access_slots.specs.Declaration.{Declaration}
use Rattle.bpf_encoding.specs.Spelling.{number_of}
use Rattle.bpf_encoding.specs.Reading.{is_64}
use Rattle.bpf_encoding.specs.declared.insn.AtomicOperation.{AtomicOperation}
use Rattle.bpf_encoding.specs.declared.insn.AtomicOperation.TheVariants as atomic
use Rattle.bpf_encoding.specs.declared.insn.Register.{Register}
use Rattle.bpf_encoding.specs.declared.insn.Width.{Width}
use Rattle.bpf_encoding.specs.declared.insn.Width.TheVariants.{Bits64}
use Rattle.bpf_encoding.specs.declared.insn.Condition.{Condition}
use Rattle.bpf_encoding.specs.declared.insn.Condition.TheVariants.{Equal, NotEqual}
use Rattle.bpf_encoding.specs.declared.insn.Source.{Source}
use Rattle.bpf_encoding.specs.declared.insn.Source.TheVariants.{Imm}
use Rattle.bpf_encoding.specs.declared.insn.Operation.{Operation}
use Rattle.bpf_encoding.specs.declared.insn.Operation.TheVariants.{Mov}
use Rattle.bpf_encoding.specs.declared.insn.Insn.{Insn}
use Rattle.bpf_encoding.specs.declared.insn.Insn.TheVariants.{Alu, Negate, MoveSigned, Order, LoadWide, Jump}
use Rattle.bpf_encoding.specs.declared.insn.Insn.TheVariants.{JumpLong, JumpIf, Load, LoadSigned, StoreImm, Store}
use Rattle.bpf_encoding.specs.declared.insn.Insn.TheVariants.{Atomic, Call, Exit}
use Rattle.semantics.specs.Arithmetic.{width_of}
use Rattle.semantics.specs.Instruction.{size_width, signed_size_width, receiver}
use Rattle.register_kinds.specs.declared.kind.Kind.{Kind}
use Rattle.register_kinds.specs.declared.kind.Kind.TheVariants.{Number, Const, Buffer, MaybeBuffer}
use Rattle.register_kinds.specs.declared.kind.Violation.{Violation}
use Rattle.register_kinds.specs.declared.kind.Violation.TheVariants.{EmptyRegister, WritesR10, UnknownHelper, PointerReturned}
use Rattle.register_kinds.specs.declared.kinds.Kinds.{Kinds}
use Rattle.register_kinds.specs.declared.kinds.Ways.{Ways}
use Rattle.register_kinds.specs.Kinds.{kind_at, with_kind, is_present, is_plain, check, refuse}
use Rattle.register_kinds.specs.Computed.{source_kind, alu_kind}
use Rattle.register_kinds.specs.Access.{access}
use Rattle.register_kinds.specs.Calls.{is_helper, called_by}

-- the first operand; a move reads none
abbrev pub is_left_present : Kinds → Operation → Register → Bool
is_left_present ks Mov dst = true
is_left_present ks operation dst = is_present (kind_at ks (number_of dst))

abbrev pub is_writable : Register → Bool
is_writable r = not (number_of r == 10)

-- on to the next slot alone
abbrev pub falls : Kinds → Result Ways Violation
falls ks = Ok (record { next = Some ks; jump = None })

-- such a value is written into the register
abbrev pub written_kinds : Kinds → Register → Kind → Result Ways Violation
written_kinds ks dst k = check (is_writable dst) WritesR10 (falls (with_kind ks (number_of dst) k))

abbrev pub alu_ways : Kinds → Width → Operation → Register → Source → Result Ways Violation
alu_ways ks width operation dst source =
    check (is_left_present ks operation dst) EmptyRegister (
    check (is_present (source_kind ks source)) EmptyRegister
    (written_kinds ks dst (alu_kind width operation (kind_at ks (number_of dst)) (source_kind ks source)))
    )

-- a number is computed from one register into another
abbrev pub converted_ways : Kinds → Register → Register → Result Ways Violation
converted_ways ks src dst = check (is_present (kind_at ks (number_of src))) EmptyRegister (written_kinds ks dst Number)

-- a number from memory is written into the register, unless something is wrong with the access
abbrev pub filled_kinds : Kinds → Register → Option Violation → Result Ways Violation
filled_kinds ks dst violation = check (is_writable dst) WritesR10 (refuse violation (falls (with_kind ks (number_of dst) Number)))

abbrev pub loaded_kinds : Declaration → Kinds → Register → Register → ℤ → ℕ → Result Ways Violation
loaded_kinds decl ks dst base offset bytes =
    check (is_present (kind_at ks (number_of base))) EmptyRegister
    (filled_kinds ks dst (access decl false (kind_at ks (number_of base)) offset bytes))

abbrev pub stored_kinds : Declaration → Kinds → Register → ℤ → ℕ → Result Ways Violation
stored_kinds decl ks base offset bytes =
    check (is_present (kind_at ks (number_of base))) EmptyRegister
    (refuse (access decl true (kind_at ks (number_of base)) offset bytes) (falls ks))

abbrev pub stored_register_kinds : Declaration → Kinds → Register → Register → ℤ → ℕ → Result Ways Violation
stored_register_kinds decl ks base src offset bytes =
    check (is_present (kind_at ks (number_of src))) EmptyRegister (stored_kinds decl ks base offset bytes)

-- only one atomic operation compares, with register 0
abbrev pub is_expected_present : Kinds → AtomicOperation → Bool
is_expected_present ks atomic.CompareExchange = is_present (kind_at ks 0)
is_expected_present ks operation = true

-- the old number goes into a register, if there is one
abbrev pub received_ways : Kinds → Option Register → Option Violation → Result Ways Violation
received_ways ks None violation = refuse violation (falls ks)
received_ways ks (Some r) violation = filled_kinds ks r violation

abbrev pub exchanged_ways : Declaration → Kinds → Option Register → Register → ℤ → ℕ → Result Ways Violation
exchanged_ways decl ks into base offset bytes =
    check (is_present (kind_at ks (number_of base))) EmptyRegister
    (received_ways ks into (access decl true (kind_at ks (number_of base)) offset bytes))

abbrev pub atomic_ways : Declaration → Kinds → AtomicOperation → Register → Register → ℤ → ℕ → Result Ways Violation
atomic_ways decl ks operation base src offset bytes =
    check (is_present (kind_at ks (number_of src))) EmptyRegister (
    check (is_expected_present ks operation) EmptyRegister (exchanged_ways decl ks (receiver operation src) base offset bytes)
    )

abbrev pub null_if_zero : ℤ → Bool → Option Bool
null_if_zero n jumps = if int_eq n (pos 0) then Some jumps else None

-- whether it tests a whole register against 0; and if so, whether it jumps where it is 0
abbrev pub null_test : Width → Condition → Source → Option Bool
null_test Bits64 Equal (Imm n) = null_if_zero n true
null_test Bits64 NotEqual (Imm n) = null_if_zero n false
null_test width condition source = None

-- both ways of a condition; a buffer's address that may be 0 is told apart by the test
abbrev pub branch_ways : Option Bool → Kind → ℕ → Kinds → Ways
branch_ways (Some true) (MaybeBuffer slot) r ks =
    record { next = Some (with_kind ks r (Buffer slot (pos 0))); jump = Some (with_kind ks r (Const 0)) }
branch_ways (Some false) (MaybeBuffer slot) r ks =
    record { next = Some (with_kind ks r (Const 0)); jump = Some (with_kind ks r (Buffer slot (pos 0))) }
branch_ways test kind r ks = record { next = Some ks; jump = Some ks }

abbrev pub compared_ways : Kinds → Width → Condition → Register → Source → Result Ways Violation
compared_ways ks width condition dst source =
    check (is_present (kind_at ks (number_of dst))) EmptyRegister (
    check (is_present (source_kind ks source)) EmptyRegister
    (Ok (branch_ways (null_test width condition source) (kind_at ks (number_of dst)) (number_of dst) ks))
    )

abbrev pub called_ways : Declaration → Kinds → ℤ → Result Ways Violation
called_ways decl ks helper = check (is_present (kind_at ks 1)) EmptyRegister
    (check (is_helper helper) UnknownHelper (called_by decl ks helper (kind_at ks 1)))

abbrev pub exit_ways : Kinds → Result Ways Violation
exit_ways ks = check (is_present (kind_at ks 0)) EmptyRegister
    (check (is_plain (kind_at ks 0)) PointerReturned (Ok (record { next = None; jump = None })))

-- the kinds at the next slot and at the jump's target, or the first thing that the instruction may not do
abbrev pub transfer_of : Declaration → Insn → Kinds → Result Ways Violation
transfer_of decl (Alu width operation dst source) ks = alu_ways ks width operation dst source
transfer_of decl (Negate width dst) ks = converted_ways ks dst dst
transfer_of decl (MoveSigned extension dst src) ks = converted_ways ks src dst
transfer_of decl (Order order width dst) ks = converted_ways ks dst dst
transfer_of decl (LoadWide dst value) ks = written_kinds ks dst (Const (value % 2 ^ 64))
transfer_of decl (Jump offset) ks = Ok (record { next = None; jump = Some ks })
transfer_of decl (JumpLong offset) ks = Ok (record { next = None; jump = Some ks })
transfer_of decl (JumpIf width condition dst source offset) ks = compared_ways ks width condition dst source
transfer_of decl (Load size dst base offset) ks = loaded_kinds decl ks dst base offset (byte_len (size_width size))
transfer_of decl (LoadSigned size dst base offset) ks = loaded_kinds decl ks dst base offset (byte_len (signed_size_width size))
transfer_of decl (StoreImm size base offset imm) ks = stored_kinds decl ks base offset (byte_len (size_width size))
transfer_of decl (Store size base src offset) ks = stored_register_kinds decl ks base src offset (byte_len (size_width size))
transfer_of decl (Atomic width operation base src offset) ks =
    atomic_ways decl ks operation base src offset (byte_len (width_of (is_64 width)))
transfer_of decl (Call helper) ks = called_ways decl ks helper
transfer_of decl Exit ks = exit_ways ks
