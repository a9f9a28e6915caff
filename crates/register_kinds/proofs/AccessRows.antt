-- The table of kinds, line by line: loads and stores, empty registers and register 10. What each instruction gives, and what it is refused for,
-- computed by the prover. Offsets count from a region's first byte.
use Rattle.std.proofs.Common.{◌≡◌, refl}
use Rattle.std.specs.Prelude.{pos, negsuc, Err}
use Rattle.bpf_encoding.specs.declared.insn.Register.TheVariants.{R0, R1, R2, R3, R4, R5, R6, R9, R10}
use Rattle.bpf_encoding.specs.declared.insn.Width.TheVariants.{Bits64}
use Rattle.bpf_encoding.specs.declared.insn.Size.TheVariants.{Word, Half, Byte, Double}
use Rattle.bpf_encoding.specs.declared.insn.SignedSize.TheVariants.{SignedWord, SignedHalf, SignedByte}
use Rattle.bpf_encoding.specs.declared.insn.Source.TheVariants.{Imm, Reg}
use Rattle.bpf_encoding.specs.declared.insn.Operation.TheVariants.{Add, Mov}
use Rattle.bpf_encoding.specs.declared.insn.Extension.TheVariants.{Byte64, Word64}
use Rattle.bpf_encoding.specs.declared.insn.ByteOrder.TheVariants.{Little, Big}
use Rattle.bpf_encoding.specs.declared.insn.OrderWidth.TheVariants.{Order16, Order64}
use Rattle.bpf_encoding.specs.declared.insn.Condition.TheVariants.{Equal}
use Rattle.bpf_encoding.specs.declared.insn.Insn.TheVariants.{Alu, Negate, MoveSigned, Order, LoadWide, JumpIf, Load}
use Rattle.bpf_encoding.specs.declared.insn.Insn.TheVariants.{LoadSigned, StoreImm, Store, Exit}
use Rattle.register_kinds.specs.declared.kind.Kind.TheVariants.{Number, Const}
use Rattle.register_kinds.specs.declared.kind.Violation.TheVariants.{EmptyRegister, WritesR10, NotAPointer, OutOfBounds, ReadOnly, MaybeNull}
use Rattle.register_kinds.proofs.TableStart.{does, gives, falls}

-- ---- loads and stores within their region

load_byte_at_the_stacks_first_byte : does (Load Byte R0 R10 (negsuc 511)) ≡ gives 0 Number
load_byte_at_the_stacks_first_byte = refl

load_byte_below_the_stack : does (Load Byte R0 R10 (negsuc 512)) ≡ Err OutOfBounds
load_byte_below_the_stack = refl

load_byte_at_the_stacks_end : does (Load Byte R0 R10 (negsuc 0)) ≡ gives 0 Number
load_byte_at_the_stacks_end = refl

load_byte_past_the_stack : does (Load Byte R0 R10 (pos 0)) ≡ Err OutOfBounds
load_byte_past_the_stack = refl

load_byte_at_the_arguments_end : does (Load Byte R0 R1 (pos 15)) ≡ gives 0 Number
load_byte_at_the_arguments_end = refl

load_byte_past_the_arguments : does (Load Byte R0 R1 (pos 16)) ≡ Err OutOfBounds
load_byte_past_the_arguments = refl

load_byte_at_a_buffers_end : does (Load Byte R0 R6 (pos 55)) ≡ gives 0 Number
load_byte_at_a_buffers_end = refl

load_byte_past_a_buffer : does (Load Byte R0 R6 (pos 56)) ≡ Err OutOfBounds
load_byte_past_a_buffer = refl

load_byte_before_a_buffer : does (Load Byte R0 R6 (negsuc 8)) ≡ Err OutOfBounds
load_byte_before_a_buffer = refl

store_byte_at_the_stacks_end : does (Store Byte R10 R3 (negsuc 0)) ≡ falls
store_byte_at_the_stacks_end = refl

store_byte_past_the_stack : does (Store Byte R10 R3 (pos 0)) ≡ Err OutOfBounds
store_byte_past_the_stack = refl

store_byte_of_a_number_at_a_buffers_end : does (StoreImm Byte R6 (pos 55) (pos 1)) ≡ falls
store_byte_of_a_number_at_a_buffers_end = refl

store_byte_of_a_number_past_a_buffer : does (StoreImm Byte R6 (pos 56) (pos 1)) ≡ Err OutOfBounds
store_byte_of_a_number_past_a_buffer = refl

store_byte_into_the_arguments : does (Store Byte R1 R3 (pos 0)) ≡ Err ReadOnly
store_byte_into_the_arguments = refl

store_byte_of_a_number_into_the_arguments : does (StoreImm Byte R1 (pos 0) (pos 1)) ≡ Err ReadOnly
store_byte_of_a_number_into_the_arguments = refl

load_half_at_the_stacks_first_byte : does (Load Half R0 R10 (negsuc 511)) ≡ gives 0 Number
load_half_at_the_stacks_first_byte = refl

load_half_below_the_stack : does (Load Half R0 R10 (negsuc 512)) ≡ Err OutOfBounds
load_half_below_the_stack = refl

load_half_at_the_stacks_end : does (Load Half R0 R10 (negsuc 1)) ≡ gives 0 Number
load_half_at_the_stacks_end = refl

load_half_past_the_stack : does (Load Half R0 R10 (negsuc 0)) ≡ Err OutOfBounds
load_half_past_the_stack = refl

load_half_at_the_arguments_end : does (Load Half R0 R1 (pos 14)) ≡ gives 0 Number
load_half_at_the_arguments_end = refl

load_half_past_the_arguments : does (Load Half R0 R1 (pos 15)) ≡ Err OutOfBounds
load_half_past_the_arguments = refl

load_half_at_a_buffers_end : does (Load Half R0 R6 (pos 54)) ≡ gives 0 Number
load_half_at_a_buffers_end = refl

load_half_past_a_buffer : does (Load Half R0 R6 (pos 55)) ≡ Err OutOfBounds
load_half_past_a_buffer = refl

load_half_before_a_buffer : does (Load Half R0 R6 (negsuc 8)) ≡ Err OutOfBounds
load_half_before_a_buffer = refl

store_half_at_the_stacks_end : does (Store Half R10 R3 (negsuc 1)) ≡ falls
store_half_at_the_stacks_end = refl

store_half_past_the_stack : does (Store Half R10 R3 (negsuc 0)) ≡ Err OutOfBounds
store_half_past_the_stack = refl

store_half_of_a_number_at_a_buffers_end : does (StoreImm Half R6 (pos 54) (pos 1)) ≡ falls
store_half_of_a_number_at_a_buffers_end = refl

store_half_of_a_number_past_a_buffer : does (StoreImm Half R6 (pos 55) (pos 1)) ≡ Err OutOfBounds
store_half_of_a_number_past_a_buffer = refl

store_half_into_the_arguments : does (Store Half R1 R3 (pos 0)) ≡ Err ReadOnly
store_half_into_the_arguments = refl

store_half_of_a_number_into_the_arguments : does (StoreImm Half R1 (pos 0) (pos 1)) ≡ Err ReadOnly
store_half_of_a_number_into_the_arguments = refl

load_word_at_the_stacks_first_byte : does (Load Word R0 R10 (negsuc 511)) ≡ gives 0 Number
load_word_at_the_stacks_first_byte = refl

load_word_below_the_stack : does (Load Word R0 R10 (negsuc 512)) ≡ Err OutOfBounds
load_word_below_the_stack = refl

load_word_at_the_stacks_end : does (Load Word R0 R10 (negsuc 3)) ≡ gives 0 Number
load_word_at_the_stacks_end = refl

load_word_past_the_stack : does (Load Word R0 R10 (negsuc 2)) ≡ Err OutOfBounds
load_word_past_the_stack = refl

load_word_at_the_arguments_end : does (Load Word R0 R1 (pos 12)) ≡ gives 0 Number
load_word_at_the_arguments_end = refl

load_word_past_the_arguments : does (Load Word R0 R1 (pos 13)) ≡ Err OutOfBounds
load_word_past_the_arguments = refl

load_word_at_a_buffers_end : does (Load Word R0 R6 (pos 52)) ≡ gives 0 Number
load_word_at_a_buffers_end = refl

load_word_past_a_buffer : does (Load Word R0 R6 (pos 53)) ≡ Err OutOfBounds
load_word_past_a_buffer = refl

load_word_before_a_buffer : does (Load Word R0 R6 (negsuc 8)) ≡ Err OutOfBounds
load_word_before_a_buffer = refl

store_word_at_the_stacks_end : does (Store Word R10 R3 (negsuc 3)) ≡ falls
store_word_at_the_stacks_end = refl

store_word_past_the_stack : does (Store Word R10 R3 (negsuc 2)) ≡ Err OutOfBounds
store_word_past_the_stack = refl

store_word_of_a_number_at_a_buffers_end : does (StoreImm Word R6 (pos 52) (pos 1)) ≡ falls
store_word_of_a_number_at_a_buffers_end = refl

store_word_of_a_number_past_a_buffer : does (StoreImm Word R6 (pos 53) (pos 1)) ≡ Err OutOfBounds
store_word_of_a_number_past_a_buffer = refl

store_word_into_the_arguments : does (Store Word R1 R3 (pos 0)) ≡ Err ReadOnly
store_word_into_the_arguments = refl

store_word_of_a_number_into_the_arguments : does (StoreImm Word R1 (pos 0) (pos 1)) ≡ Err ReadOnly
store_word_of_a_number_into_the_arguments = refl

load_double_at_the_stacks_first_byte : does (Load Double R0 R10 (negsuc 511)) ≡ gives 0 Number
load_double_at_the_stacks_first_byte = refl

load_double_below_the_stack : does (Load Double R0 R10 (negsuc 512)) ≡ Err OutOfBounds
load_double_below_the_stack = refl

load_double_at_the_stacks_end : does (Load Double R0 R10 (negsuc 7)) ≡ gives 0 Number
load_double_at_the_stacks_end = refl

load_double_past_the_stack : does (Load Double R0 R10 (negsuc 6)) ≡ Err OutOfBounds
load_double_past_the_stack = refl

load_double_at_the_arguments_end : does (Load Double R0 R1 (pos 8)) ≡ gives 0 Number
load_double_at_the_arguments_end = refl

load_double_past_the_arguments : does (Load Double R0 R1 (pos 9)) ≡ Err OutOfBounds
load_double_past_the_arguments = refl

load_double_at_a_buffers_end : does (Load Double R0 R6 (pos 48)) ≡ gives 0 Number
load_double_at_a_buffers_end = refl

load_double_past_a_buffer : does (Load Double R0 R6 (pos 49)) ≡ Err OutOfBounds
load_double_past_a_buffer = refl

load_double_before_a_buffer : does (Load Double R0 R6 (negsuc 8)) ≡ Err OutOfBounds
load_double_before_a_buffer = refl

store_double_at_the_stacks_end : does (Store Double R10 R3 (negsuc 7)) ≡ falls
store_double_at_the_stacks_end = refl

store_double_past_the_stack : does (Store Double R10 R3 (negsuc 6)) ≡ Err OutOfBounds
store_double_past_the_stack = refl

store_double_of_a_number_at_a_buffers_end : does (StoreImm Double R6 (pos 48) (pos 1)) ≡ falls
store_double_of_a_number_at_a_buffers_end = refl

store_double_of_a_number_past_a_buffer : does (StoreImm Double R6 (pos 49) (pos 1)) ≡ Err OutOfBounds
store_double_of_a_number_past_a_buffer = refl

store_double_into_the_arguments : does (Store Double R1 R3 (pos 0)) ≡ Err ReadOnly
store_double_into_the_arguments = refl

store_double_of_a_number_into_the_arguments : does (StoreImm Double R1 (pos 0) (pos 1)) ≡ Err ReadOnly
store_double_of_a_number_into_the_arguments = refl

signed_load_byte_at_a_buffers_end : does (LoadSigned SignedByte R0 R6 (pos 55)) ≡ gives 0 Number
signed_load_byte_at_a_buffers_end = refl

signed_load_byte_past_a_buffer : does (LoadSigned SignedByte R0 R6 (pos 56)) ≡ Err OutOfBounds
signed_load_byte_past_a_buffer = refl

signed_load_half_at_a_buffers_end : does (LoadSigned SignedHalf R0 R6 (pos 54)) ≡ gives 0 Number
signed_load_half_at_a_buffers_end = refl

signed_load_half_past_a_buffer : does (LoadSigned SignedHalf R0 R6 (pos 55)) ≡ Err OutOfBounds
signed_load_half_past_a_buffer = refl

signed_load_word_at_a_buffers_end : does (LoadSigned SignedWord R0 R6 (pos 52)) ≡ gives 0 Number
signed_load_word_at_a_buffers_end = refl

signed_load_word_past_a_buffer : does (LoadSigned SignedWord R0 R6 (pos 53)) ≡ Err OutOfBounds
signed_load_word_past_a_buffer = refl

store_of_an_address : does (Store Double R10 R4 (negsuc 7)) ≡ falls
store_of_an_address = refl

load_by_a_number : does (Load Byte R9 R2 (pos 0)) ≡ Err NotAPointer
load_by_a_number = refl

signed_load_by_a_number : does (LoadSigned SignedByte R9 R2 (pos 0)) ≡ Err NotAPointer
signed_load_by_a_number = refl

store_by_a_number : does (Store Byte R2 R3 (pos 0)) ≡ Err NotAPointer
store_by_a_number = refl

store_of_a_number_by_a_number : does (StoreImm Byte R2 (pos 0) (pos 1)) ≡ Err NotAPointer
store_of_a_number_by_a_number = refl

load_by_a_constant : does (Load Byte R9 R3 (pos 0)) ≡ Err NotAPointer
load_by_a_constant = refl

signed_load_by_a_constant : does (LoadSigned SignedByte R9 R3 (pos 0)) ≡ Err NotAPointer
signed_load_by_a_constant = refl

store_by_a_constant : does (Store Byte R3 R3 (pos 0)) ≡ Err NotAPointer
store_by_a_constant = refl

store_of_a_number_by_a_constant : does (StoreImm Byte R3 (pos 0) (pos 1)) ≡ Err NotAPointer
store_of_a_number_by_a_constant = refl

load_by_what_may_be_a_buffer : does (Load Byte R9 R5 (pos 0)) ≡ Err MaybeNull
load_by_what_may_be_a_buffer = refl

signed_load_by_what_may_be_a_buffer : does (LoadSigned SignedByte R9 R5 (pos 0)) ≡ Err MaybeNull
signed_load_by_what_may_be_a_buffer = refl

store_by_what_may_be_a_buffer : does (Store Byte R5 R3 (pos 0)) ≡ Err MaybeNull
store_by_what_may_be_a_buffer = refl

store_of_a_number_by_what_may_be_a_buffer : does (StoreImm Byte R5 (pos 0) (pos 1)) ≡ Err MaybeNull
store_of_a_number_by_what_may_be_a_buffer = refl

load_by_an_empty_register : does (Load Byte R9 R0 (pos 0)) ≡ Err EmptyRegister
load_by_an_empty_register = refl

signed_load_by_an_empty_register : does (LoadSigned SignedByte R9 R0 (pos 0)) ≡ Err EmptyRegister
signed_load_by_an_empty_register = refl

store_by_an_empty_register : does (Store Byte R0 R3 (pos 0)) ≡ Err EmptyRegister
store_by_an_empty_register = refl

store_of_a_number_by_an_empty_register : does (StoreImm Byte R0 (pos 0) (pos 1)) ≡ Err EmptyRegister
store_of_a_number_by_an_empty_register = refl

-- ---- empty registers that are read

copy_of_an_empty_register : does (Alu Bits64 Mov R2 (Reg R0)) ≡ Err EmptyRegister
copy_of_an_empty_register = refl

move_into_an_empty_register : does (Alu Bits64 Mov R0 (Imm (pos 1))) ≡ gives 0 (Const 1)
move_into_an_empty_register = refl

sum_in_an_empty_register : does (Alu Bits64 Add R0 (Imm (pos 1))) ≡ Err EmptyRegister
sum_in_an_empty_register = refl

sum_with_an_empty_register : does (Alu Bits64 Add R2 (Reg R0)) ≡ Err EmptyRegister
sum_with_an_empty_register = refl

negation_of_an_empty_register : does (Negate Bits64 R0) ≡ Err EmptyRegister
negation_of_an_empty_register = refl

sign_of_an_empty_register : does (MoveSigned Byte64 R2 R0) ≡ Err EmptyRegister
sign_of_an_empty_register = refl

order_of_an_empty_register : does (Order Big Order16 R0) ≡ Err EmptyRegister
order_of_an_empty_register = refl

comparison_of_an_empty_register : does (JumpIf Bits64 Equal R0 (Imm (pos 0)) (pos 1)) ≡ Err EmptyRegister
comparison_of_an_empty_register = refl

comparison_with_an_empty_register : does (JumpIf Bits64 Equal R2 (Reg R0) (pos 1)) ≡ Err EmptyRegister
comparison_with_an_empty_register = refl

store_of_an_empty_register : does (Store Byte R10 R0 (negsuc 7)) ≡ Err EmptyRegister
store_of_an_empty_register = refl

exit_without_a_value : does (Exit) ≡ Err EmptyRegister
exit_without_a_value = refl

-- ---- register 10 is written

number_into_register_10 : does (Alu Bits64 Mov R10 (Imm (pos 1))) ≡ Err WritesR10
number_into_register_10 = refl

sum_in_register_10 : does (Alu Bits64 Add R10 (Imm (pos 8))) ≡ Err WritesR10
sum_in_register_10 = refl

negation_of_register_10 : does (Negate Bits64 R10) ≡ Err WritesR10
negation_of_register_10 = refl

sign_into_register_10 : does (MoveSigned Word64 R10 R2) ≡ Err WritesR10
sign_into_register_10 = refl

order_of_register_10 : does (Order Little Order64 R10) ≡ Err WritesR10
order_of_register_10 = refl

wide_number_into_register_10 : does (LoadWide R10 1) ≡ Err WritesR10
wide_number_into_register_10 = refl

load_into_register_10 : does (Load Double R10 R10 (negsuc 7)) ≡ Err WritesR10
load_into_register_10 = refl

signed_load_into_register_10 : does (LoadSigned SignedByte R10 R10 (negsuc 7)) ≡ Err WritesR10
signed_load_into_register_10 = refl

empty_register_into_register_10 : does (Alu Bits64 Mov R10 (Reg R0)) ≡ Err EmptyRegister
empty_register_into_register_10 = refl

load_past_the_stack_into_register_10 : does (Load Double R10 R10 (pos 0)) ≡ Err WritesR10
load_past_the_stack_into_register_10 = refl
