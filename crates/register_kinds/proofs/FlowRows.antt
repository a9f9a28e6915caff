-- The table of kinds, line by line: jumps, calls, exits and joins. What each instruction gives, and what it is refused for,
-- computed by the prover. Offsets count from a region's first byte.
use Rattle.std.proofs.Common.{◌≡◌, refl}
use Rattle.std.specs.Prelude.{pos, negsuc, Err, slice_set}
use Rattle.bpf_encoding.specs.declared.insn.Register.TheVariants.{R1, R2, R3, R4, R5, R6}
use Rattle.bpf_encoding.specs.declared.insn.Width.TheVariants.{Bits32, Bits64}
use Rattle.bpf_encoding.specs.declared.insn.Source.TheVariants.{Imm, Reg}
use Rattle.bpf_encoding.specs.declared.insn.Condition.TheVariants.{Equal, Greater, GreaterOrEqual, AnyBit, NotEqual, SignedGreater}
use Rattle.bpf_encoding.specs.declared.insn.Condition.TheVariants.{SignedGreaterOrEqual, Less, LessOrEqual, SignedLess, SignedLessOrEqual}
use Rattle.bpf_encoding.specs.declared.insn.Insn.TheVariants.{Jump, JumpLong, JumpIf, Call, Exit}
use Rattle.register_kinds.specs.declared.kind.Kind.TheVariants.{Empty, Number, Const, Stack, Args, Buffer, MaybeBuffer}
use Rattle.register_kinds.specs.declared.kind.Violation.TheVariants.{EmptyRegister, UnknownHelper, SlotUnknown, ModeTooWeak, PointerReturned}
use Rattle.register_kinds.specs.Kinds.{join_of}
use Rattle.register_kinds.specs.Transfer.{transfer_of}
use Rattle.register_kinds.proofs.TableStart.{declared, starts, does, jumps, branches, splits, returns, ends}

-- ---- both ways of a jump; a test of a whole register against 0 tells a buffer's address from 0

jump : does (Jump (pos 1)) ≡ jumps
jump = refl

long_jump : does (JumpLong (pos 1)) ≡ jumps
long_jump = refl

equal_to_0 : does (JumpIf Bits64 Equal R5 (Imm (pos 0)) (pos 1)) ≡ splits 5 (Buffer 0 (pos 0)) (Const 0)
equal_to_0 = refl

not_equal_to_0 : does (JumpIf Bits64 NotEqual R5 (Imm (pos 0)) (pos 1)) ≡ splits 5 (Const 0) (Buffer 0 (pos 0))
not_equal_to_0 = refl

test_Greater_against_0 : does (JumpIf Bits64 Greater R5 (Imm (pos 0)) (pos 1)) ≡ branches
test_Greater_against_0 = refl

test_GreaterOrEqual_against_0 : does (JumpIf Bits64 GreaterOrEqual R5 (Imm (pos 0)) (pos 1)) ≡ branches
test_GreaterOrEqual_against_0 = refl

test_AnyBit_against_0 : does (JumpIf Bits64 AnyBit R5 (Imm (pos 0)) (pos 1)) ≡ branches
test_AnyBit_against_0 = refl

test_SignedGreater_against_0 : does (JumpIf Bits64 SignedGreater R5 (Imm (pos 0)) (pos 1)) ≡ branches
test_SignedGreater_against_0 = refl

test_SignedGreaterOrEqual_against_0 : does (JumpIf Bits64 SignedGreaterOrEqual R5 (Imm (pos 0)) (pos 1)) ≡ branches
test_SignedGreaterOrEqual_against_0 = refl

test_Less_against_0 : does (JumpIf Bits64 Less R5 (Imm (pos 0)) (pos 1)) ≡ branches
test_Less_against_0 = refl

test_LessOrEqual_against_0 : does (JumpIf Bits64 LessOrEqual R5 (Imm (pos 0)) (pos 1)) ≡ branches
test_LessOrEqual_against_0 = refl

test_SignedLess_against_0 : does (JumpIf Bits64 SignedLess R5 (Imm (pos 0)) (pos 1)) ≡ branches
test_SignedLess_against_0 = refl

test_SignedLessOrEqual_against_0 : does (JumpIf Bits64 SignedLessOrEqual R5 (Imm (pos 0)) (pos 1)) ≡ branches
test_SignedLessOrEqual_against_0 = refl

equal_to_1 : does (JumpIf Bits64 Equal R5 (Imm (pos 1)) (pos 1)) ≡ branches
equal_to_1 = refl

equal_to_a_register : does (JumpIf Bits64 Equal R5 (Reg R3) (pos 1)) ≡ branches
equal_to_a_register = refl

narrow_equal_to_0 : does (JumpIf Bits32 Equal R5 (Imm (pos 0)) (pos 1)) ≡ branches
narrow_equal_to_0 = refl

equal_to_0_of_the_arguments : does (JumpIf Bits64 Equal R1 (Imm (pos 0)) (pos 1)) ≡ branches
equal_to_0_of_the_arguments = refl

equal_to_0_of_a_number : does (JumpIf Bits64 Equal R2 (Imm (pos 0)) (pos 1)) ≡ branches
equal_to_0_of_a_number = refl

equal_to_0_of_a_constant : does (JumpIf Bits64 Equal R3 (Imm (pos 0)) (pos 1)) ≡ branches
equal_to_0_of_a_constant = refl

equal_to_0_of_a_stack_address : does (JumpIf Bits64 Equal R4 (Imm (pos 0)) (pos 1)) ≡ branches
equal_to_0_of_a_stack_address = refl

equal_to_0_of_a_buffer : does (JumpIf Bits64 Equal R6 (Imm (pos 0)) (pos 1)) ≡ branches
equal_to_0_of_a_buffer = refl

not_equal_to_1 : does (JumpIf Bits64 NotEqual R5 (Imm (pos 1)) (pos 1)) ≡ branches
not_equal_to_1 = refl

not_equal_to_a_register : does (JumpIf Bits64 NotEqual R5 (Reg R3) (pos 1)) ≡ branches
not_equal_to_a_register = refl

narrow_not_equal_to_0 : does (JumpIf Bits32 NotEqual R5 (Imm (pos 0)) (pos 1)) ≡ branches
narrow_not_equal_to_0 = refl

not_equal_to_0_of_the_arguments : does (JumpIf Bits64 NotEqual R1 (Imm (pos 0)) (pos 1)) ≡ branches
not_equal_to_0_of_the_arguments = refl

not_equal_to_0_of_a_number : does (JumpIf Bits64 NotEqual R2 (Imm (pos 0)) (pos 1)) ≡ branches
not_equal_to_0_of_a_number = refl

not_equal_to_0_of_a_constant : does (JumpIf Bits64 NotEqual R3 (Imm (pos 0)) (pos 1)) ≡ branches
not_equal_to_0_of_a_constant = refl

not_equal_to_0_of_a_stack_address : does (JumpIf Bits64 NotEqual R4 (Imm (pos 0)) (pos 1)) ≡ branches
not_equal_to_0_of_a_stack_address = refl

not_equal_to_0_of_a_buffer : does (JumpIf Bits64 NotEqual R6 (Imm (pos 0)) (pos 1)) ≡ branches
not_equal_to_0_of_a_buffer = refl

-- ---- calls

read_by_the_first_slot : transfer_of declared (Call (pos 1)) (record { registers = slice_set starts.registers 1 (Const 0) }) ≡ returns (MaybeBuffer 0)
read_by_the_first_slot = refl

insert_by_the_first_slot : transfer_of declared (Call (pos 2)) (record { registers = slice_set starts.registers 1 (Const 0) }) ≡ returns (Number)
insert_by_the_first_slot = refl

update_by_the_first_slot : transfer_of declared (Call (pos 3)) (record { registers = slice_set starts.registers 1 (Const 0) }) ≡ returns (Number)
update_by_the_first_slot = refl

delete_by_the_first_slot : transfer_of declared (Call (pos 4)) (record { registers = slice_set starts.registers 1 (Const 0) }) ≡ returns (Number)
delete_by_the_first_slot = refl

buffer_by_the_first_slot : transfer_of declared (Call (pos 5)) (record { registers = slice_set starts.registers 1 (Const 0) })
    ≡ returns (Buffer 0 (pos 0))
buffer_by_the_first_slot = refl

read_by_a_slot_for_reading : transfer_of declared (Call (pos 1)) (record { registers = slice_set starts.registers 1 (Const 1) })
    ≡ returns (MaybeBuffer 1)
read_by_a_slot_for_reading = refl

insert_by_a_slot_for_reading : transfer_of declared (Call (pos 2)) (record { registers = slice_set starts.registers 1 (Const 1) }) ≡ Err ModeTooWeak
insert_by_a_slot_for_reading = refl

update_by_a_slot_for_reading : transfer_of declared (Call (pos 3)) (record { registers = slice_set starts.registers 1 (Const 1) }) ≡ Err ModeTooWeak
update_by_a_slot_for_reading = refl

delete_by_a_slot_for_reading : transfer_of declared (Call (pos 4)) (record { registers = slice_set starts.registers 1 (Const 1) }) ≡ Err ModeTooWeak
delete_by_a_slot_for_reading = refl

buffer_by_a_slot_for_reading : transfer_of declared (Call (pos 5)) (record { registers = slice_set starts.registers 1 (Const 1) })
    ≡ returns (Buffer 1 (pos 0))
buffer_by_a_slot_for_reading = refl

read_by_no_declared_slot : transfer_of declared (Call (pos 1)) (record { registers = slice_set starts.registers 1 (Const 2) }) ≡ Err SlotUnknown
read_by_no_declared_slot = refl

read_by_a_great_number : transfer_of declared (Call (pos 1)) (record { registers = slice_set starts.registers 1 (Const 4294967296) })
    ≡ Err SlotUnknown
read_by_a_great_number = refl

read_by_a_number_not_known : transfer_of declared (Call (pos 1)) (record { registers = slice_set starts.registers 1 Number }) ≡ Err SlotUnknown
read_by_a_number_not_known = refl

read_by_an_address : transfer_of declared (Call (pos 1)) (record { registers = slice_set starts.registers 1 (Args (pos 0)) }) ≡ Err SlotUnknown
read_by_an_address = refl

read_by_an_empty_register : transfer_of declared (Call (pos 1)) (record { registers = slice_set starts.registers 1 Empty }) ≡ Err EmptyRegister
read_by_an_empty_register = refl

insert_by_no_declared_slot : transfer_of declared (Call (pos 2)) (record { registers = slice_set starts.registers 1 (Const 2) }) ≡ Err SlotUnknown
insert_by_no_declared_slot = refl

insert_by_a_great_number : transfer_of declared (Call (pos 2)) (record { registers = slice_set starts.registers 1 (Const 4294967296) })
    ≡ Err SlotUnknown
insert_by_a_great_number = refl

insert_by_a_number_not_known : transfer_of declared (Call (pos 2)) (record { registers = slice_set starts.registers 1 Number }) ≡ Err SlotUnknown
insert_by_a_number_not_known = refl

insert_by_an_address : transfer_of declared (Call (pos 2)) (record { registers = slice_set starts.registers 1 (Args (pos 0)) }) ≡ Err SlotUnknown
insert_by_an_address = refl

insert_by_an_empty_register : transfer_of declared (Call (pos 2)) (record { registers = slice_set starts.registers 1 Empty }) ≡ Err EmptyRegister
insert_by_an_empty_register = refl

buffer_by_no_declared_slot : transfer_of declared (Call (pos 5)) (record { registers = slice_set starts.registers 1 (Const 2) }) ≡ Err SlotUnknown
buffer_by_no_declared_slot = refl

buffer_by_a_great_number : transfer_of declared (Call (pos 5)) (record { registers = slice_set starts.registers 1 (Const 4294967296) })
    ≡ Err SlotUnknown
buffer_by_a_great_number = refl

buffer_by_a_number_not_known : transfer_of declared (Call (pos 5)) (record { registers = slice_set starts.registers 1 Number }) ≡ Err SlotUnknown
buffer_by_a_number_not_known = refl

buffer_by_an_address : transfer_of declared (Call (pos 5)) (record { registers = slice_set starts.registers 1 (Args (pos 0)) }) ≡ Err SlotUnknown
buffer_by_an_address = refl

buffer_by_an_empty_register : transfer_of declared (Call (pos 5)) (record { registers = slice_set starts.registers 1 Empty }) ≡ Err EmptyRegister
buffer_by_an_empty_register = refl

no_helper_0 : transfer_of declared (Call (pos 0)) (record { registers = slice_set starts.registers 1 (Const 0) }) ≡ Err UnknownHelper
no_helper_0 = refl

no_helper_6 : transfer_of declared (Call (pos 6)) (record { registers = slice_set starts.registers 1 (Const 0) }) ≡ Err UnknownHelper
no_helper_6 = refl

no_helper_minus_1 : transfer_of declared (Call (negsuc 0)) (record { registers = slice_set starts.registers 1 (Const 0) }) ≡ Err UnknownHelper
no_helper_minus_1 = refl

-- ---- exits

exit_with_a_number : transfer_of declared Exit (record { registers = slice_set starts.registers 0 Number }) ≡ ends
exit_with_a_number = refl

exit_with_a_constant : transfer_of declared Exit (record { registers = slice_set starts.registers 0 (Const 1) }) ≡ ends
exit_with_a_constant = refl

exit_with_a_stack_address : transfer_of declared Exit (record { registers = slice_set starts.registers 0 (Stack (pos 0)) }) ≡ Err PointerReturned
exit_with_a_stack_address = refl

exit_with_the_arguments : transfer_of declared Exit (record { registers = slice_set starts.registers 0 (Args (pos 0)) }) ≡ Err PointerReturned
exit_with_the_arguments = refl

exit_with_a_buffer : transfer_of declared Exit (record { registers = slice_set starts.registers 0 (Buffer 0 (pos 0)) }) ≡ Err PointerReturned
exit_with_a_buffer = refl

exit_with_what_may_be_a_buffer : transfer_of declared Exit (record { registers = slice_set starts.registers 0 (MaybeBuffer 0) }) ≡ Err PointerReturned
exit_with_what_may_be_a_buffer = refl

-- ---- joins

join_Empty_with_itself : join_of Empty Empty ≡ Empty
join_Empty_with_itself = refl

join_Number_with_itself : join_of Number Number ≡ Number
join_Number_with_itself = refl

join_Const_with_itself : join_of (Const 5) (Const 5) ≡ Const 5
join_Const_with_itself = refl

join_Stack_with_itself : join_of (Stack (pos 8)) (Stack (pos 8)) ≡ Stack (pos 8)
join_Stack_with_itself = refl

join_Args_with_itself : join_of (Args (pos 8)) (Args (pos 8)) ≡ Args (pos 8)
join_Args_with_itself = refl

join_Buffer_with_itself : join_of (Buffer 0 (pos 8)) (Buffer 0 (pos 8)) ≡ Buffer 0 (pos 8)
join_Buffer_with_itself = refl

join_MaybeBuffer_with_itself : join_of (MaybeBuffer 0) (MaybeBuffer 0) ≡ MaybeBuffer 0
join_MaybeBuffer_with_itself = refl

join_Empty_with_Number : join_of Empty Number ≡ Empty
join_Empty_with_Number = refl

join_Number_with_Empty : join_of Number Empty ≡ Empty
join_Number_with_Empty = refl

join_Empty_with_Const : join_of Empty (Const 5) ≡ Empty
join_Empty_with_Const = refl

join_Const_with_Empty : join_of (Const 5) Empty ≡ Empty
join_Const_with_Empty = refl

join_Empty_with_Stack : join_of Empty (Stack (pos 8)) ≡ Empty
join_Empty_with_Stack = refl

join_Stack_with_Empty : join_of (Stack (pos 8)) Empty ≡ Empty
join_Stack_with_Empty = refl

join_Empty_with_Args : join_of Empty (Args (pos 8)) ≡ Empty
join_Empty_with_Args = refl

join_Args_with_Empty : join_of (Args (pos 8)) Empty ≡ Empty
join_Args_with_Empty = refl

join_Empty_with_Buffer : join_of Empty (Buffer 0 (pos 8)) ≡ Empty
join_Empty_with_Buffer = refl

join_Buffer_with_Empty : join_of (Buffer 0 (pos 8)) Empty ≡ Empty
join_Buffer_with_Empty = refl

join_Empty_with_MaybeBuffer : join_of Empty (MaybeBuffer 0) ≡ Empty
join_Empty_with_MaybeBuffer = refl

join_MaybeBuffer_with_Empty : join_of (MaybeBuffer 0) Empty ≡ Empty
join_MaybeBuffer_with_Empty = refl

join_Number_with_Const : join_of Number (Const 5) ≡ Number
join_Number_with_Const = refl

join_Const_with_Number : join_of (Const 5) Number ≡ Number
join_Const_with_Number = refl

join_Number_with_Stack : join_of Number (Stack (pos 8)) ≡ Number
join_Number_with_Stack = refl

join_Stack_with_Number : join_of (Stack (pos 8)) Number ≡ Number
join_Stack_with_Number = refl

join_Number_with_Args : join_of Number (Args (pos 8)) ≡ Number
join_Number_with_Args = refl

join_Args_with_Number : join_of (Args (pos 8)) Number ≡ Number
join_Args_with_Number = refl

join_Number_with_Buffer : join_of Number (Buffer 0 (pos 8)) ≡ Number
join_Number_with_Buffer = refl

join_Buffer_with_Number : join_of (Buffer 0 (pos 8)) Number ≡ Number
join_Buffer_with_Number = refl

join_Number_with_MaybeBuffer : join_of Number (MaybeBuffer 0) ≡ Number
join_Number_with_MaybeBuffer = refl

join_MaybeBuffer_with_Number : join_of (MaybeBuffer 0) Number ≡ Number
join_MaybeBuffer_with_Number = refl

join_Const_with_Stack : join_of (Const 5) (Stack (pos 8)) ≡ Number
join_Const_with_Stack = refl

join_Stack_with_Const : join_of (Stack (pos 8)) (Const 5) ≡ Number
join_Stack_with_Const = refl

join_Const_with_Args : join_of (Const 5) (Args (pos 8)) ≡ Number
join_Const_with_Args = refl

join_Args_with_Const : join_of (Args (pos 8)) (Const 5) ≡ Number
join_Args_with_Const = refl

join_Const_with_Buffer : join_of (Const 5) (Buffer 0 (pos 8)) ≡ Number
join_Const_with_Buffer = refl

join_Buffer_with_Const : join_of (Buffer 0 (pos 8)) (Const 5) ≡ Number
join_Buffer_with_Const = refl

join_Const_with_MaybeBuffer : join_of (Const 5) (MaybeBuffer 0) ≡ Number
join_Const_with_MaybeBuffer = refl

join_MaybeBuffer_with_Const : join_of (MaybeBuffer 0) (Const 5) ≡ Number
join_MaybeBuffer_with_Const = refl

join_Stack_with_Args : join_of (Stack (pos 8)) (Args (pos 8)) ≡ Number
join_Stack_with_Args = refl

join_Args_with_Stack : join_of (Args (pos 8)) (Stack (pos 8)) ≡ Number
join_Args_with_Stack = refl

join_Stack_with_Buffer : join_of (Stack (pos 8)) (Buffer 0 (pos 8)) ≡ Number
join_Stack_with_Buffer = refl

join_Buffer_with_Stack : join_of (Buffer 0 (pos 8)) (Stack (pos 8)) ≡ Number
join_Buffer_with_Stack = refl

join_Stack_with_MaybeBuffer : join_of (Stack (pos 8)) (MaybeBuffer 0) ≡ Number
join_Stack_with_MaybeBuffer = refl

join_MaybeBuffer_with_Stack : join_of (MaybeBuffer 0) (Stack (pos 8)) ≡ Number
join_MaybeBuffer_with_Stack = refl

join_Args_with_Buffer : join_of (Args (pos 8)) (Buffer 0 (pos 8)) ≡ Number
join_Args_with_Buffer = refl

join_Buffer_with_Args : join_of (Buffer 0 (pos 8)) (Args (pos 8)) ≡ Number
join_Buffer_with_Args = refl

join_Args_with_MaybeBuffer : join_of (Args (pos 8)) (MaybeBuffer 0) ≡ Number
join_Args_with_MaybeBuffer = refl

join_MaybeBuffer_with_Args : join_of (MaybeBuffer 0) (Args (pos 8)) ≡ Number
join_MaybeBuffer_with_Args = refl

join_Buffer_with_MaybeBuffer : join_of (Buffer 0 (pos 8)) (MaybeBuffer 0) ≡ Number
join_Buffer_with_MaybeBuffer = refl

join_MaybeBuffer_with_Buffer : join_of (MaybeBuffer 0) (Buffer 0 (pos 8)) ≡ Number
join_MaybeBuffer_with_Buffer = refl

join_of_other_constants : join_of (Const 5) (Const 6) ≡ Number
join_of_other_constants = refl

join_of_other_stack_addresses : join_of (Stack (pos 8)) (Stack (negsuc 7)) ≡ Number
join_of_other_stack_addresses = refl

join_of_other_arguments : join_of (Args (pos 8)) (Args (pos 0)) ≡ Number
join_of_other_arguments = refl

join_of_other_buffers_at_other_offsets : join_of (Buffer 0 (pos 8)) (Buffer 0 (pos 0)) ≡ Number
join_of_other_buffers_at_other_offsets = refl

join_of_other_buffers_of_other_slots : join_of (Buffer 0 (pos 8)) (Buffer 1 (pos 8)) ≡ Number
join_of_other_buffers_of_other_slots = refl

join_of_other_what_may_be_other_buffers : join_of (MaybeBuffer 0) (MaybeBuffer 1) ≡ Number
join_of_other_what_may_be_other_buffers = refl
